-- What `check --losses` prints of a capture text: what `check` prints of it, and where that refuses a datagram, one line more.
use Rattle.std.specs.Prelude.{◌≡◌, ◌==◌, ◌⊎◌, ◌+◌, ◌++◌, ℕ, count_by, List, [], ◌∷◌, Bool, true, false, if◌then◌else◌, nat_eq, None, Result, Err, codes, decimal, flat_map}
use Rattle.std.specs.Io.KnownBytes.{IsAtEnd}
use Rattle.tftp_capture.specs.declared.fault.CaptureFault.TheVariants.{Read}
use Rattle.law_model.specs.Model.{Meaning}
use Rattle.tftp_judge.specs.{Capture, Refused, Unlawful, Verdict}
use Rattle.judge_losses.specs.{AreMissingOf, Place, missing_at}
use Rattle.tftp_commands.specs.Checked.{checked}
use Rattle.tftp_commands.specs.Judged.{IsJudged}
use Rattle.tftp_commands.specs.Outputs.{Output, memory_line}
use Rattle.tftp_commands.specs.Sources.{Source, given}
use Rattle.tftp_commands.specs.declared.status.Status.TheVariants as status

-- the words are the program's name, whatever it is, and these two
abbrev pub AsksForLosses : List (List ℕ) → Type 0
AsksForLosses words = (program : List ℕ) × (words ≡ program ∷ codes "check" ∷ codes "--losses" ∷ [])

-- ---- the line of what is missing

-- how many came in, or the named end sent, before which datagram that was recorded
abbrev pub place_text : Place → List ℕ
place_text place =
    if nat_eq place.sent 0 then decimal place.came ++ codes " incoming before datagram " ++ decimal place.before
    else if nat_eq place.came 0 then decimal place.sent ++ codes " outgoing before datagram " ++ decimal place.before
    else decimal place.came ++ codes " incoming and " ++ decimal place.sent ++ codes " outgoing before datagram " ++ decimal place.before

abbrev pub further_text : Place → List ℕ
further_text place = codes ", " ++ place_text place

abbrev pub count_text : ℕ → List ℕ
count_text count = if nat_eq count 1 then codes "lawful if 1 datagram is missing" else codes "lawful if " ++ decimal count ++ codes " datagrams are missing"

-- the line of the places that were found
abbrev pub losses_line : List Place → List ℕ
losses_line [] = codes "no missing datagrams were found that would make it lawful\n"
losses_line (place ∷ further) = count_text (missing_at (place ∷ further)) ++ codes ": " ++ place_text place ++ flat_map further_text further ++ codes "\n"

-- What was found is right of the text: it is a capture that is lawful with what is missing at these places.
abbrev pub IsFoundIn : List ℕ → List Place → Type 0
IsFoundIn text [] = Unit {0}
IsFoundIn text (place ∷ further) = AreMissingOf text (place ∷ further)

-- ---- the output

-- the verdict is that a datagram is unlawful
abbrev pub says_unlawful : Result Meaning Verdict → Bool
says_unlawful (Err (Refused (Unlawful index rule))) = true
says_unlawful _ = false

-- an output with a line behind it, which does not change its status
abbrev pub with_further : Output → List ℕ → Output
with_further output line = record { bytes = output.bytes ++ line; status = output.status }

abbrev pub with_losses : Result Meaning Verdict → List Place → Output
with_losses said found = if says_unlawful said then with_further (checked said) (losses_line found) else checked said

-- The output is that of what `check` has to say of a text that is given whole, with what was found to be missing.
pub record IsToldOf (text : List ℕ) (output : Output) : Type 0 where
  pub said : Result Meaning Verdict
  pub judged : IsJudged None (given text) said
  pub found : List Place
  pub right : IsFoundIn text found
  pub is : output ≡ with_losses said found

abbrev pub SaysMemory : Output → Type 0
SaysMemory output = output ≡ record { bytes = memory_line; status = status.Fault }

-- The same of a text that is not accepted, where the verdict is known; or memory ran out.
abbrev pub IsRefusedWith : Verdict → List ℕ → Output → Type 0
IsRefusedWith verdict text output = ((found : List Place) × IsFoundIn text found × (output ≡ with_losses (Err verdict) found)) ⊎ SaysMemory output

-- or memory ran out
abbrev pub IsToldWithLosses : List ℕ → Output → Type 0
IsToldWithLosses text output = IsToldOf text output ⊎ SaysMemory output

-- how many lines end in a text
abbrev pub newlines : List ℕ → ℕ
newlines text = count_by (λ byte. byte == 10) text

-- The source is read to its end, and told of; or a read fails, and that is told with the line on which it does.
pub record IsCheckedWithLosses (source : Source) (output : Output) : Type 0 where
  pub whole : source.failed ≡ false → (IsAtEnd source.left × IsToldOf source.read output) ⊎ SaysMemory output
  pub failed : source.failed ≡ true → output ≡ checked (Err (Capture (Read (1 + newlines source.read))))
