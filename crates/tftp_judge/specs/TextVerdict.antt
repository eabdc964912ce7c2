-- What there is to say of a capture text, by the runs of two ends; `rollover` is what comes after block 65535, where anything does.
use Rattle.std.specs.Prelude.{◌≡◌, List, [], ◌∷◌, ◌++◌, ℕ, ◌<◌, ◌≤◌, ◌⊎◌, All, length, map, reverse, Option, None, Result, Ok, Err}
use Rattle.tftp_capture.specs.{Begins, Due, HasFault, IsCapture, Numbered, Stands, Unfinished, IsAtTextEnd, IsReadFault, SaysOneMore, Version, TextFault, CaptureFault}
use Rattle.net_streams.specs.Streams.{most_ahead}
use Rattle.tftp_capture.specs.CaptureText.Due.{Body}
use Rattle.tftp_capture.specs.declared.fault.CaptureFault.TheVariants.{Text, Read, Memory}
use Rattle.tftp_packet.specs.Hosts.{Datagram, Header}
use Rattle.tftp_packet.specs.{Rollover}
use Rattle.law_model.specs.Model.{Meaning}
use Rattle.law_end.specs.{IsLawful}
use Rattle.tftp_judge.specs.Memory.{TakesMemory}
use Rattle.tftp_judge.specs.TakenAs.{HoldsBy}
use Rattle.tftp_judge.specs.Verdicts.{IsVerdict}
use Rattle.tftp_judge.specs.declared.refusal.Refusal.{Refusal}
use Rattle.tftp_judge.specs.declared.refusal.Refusal.TheVariants as refusal
use Rattle.tftp_judge.specs.declared.verdict.Verdict.{Verdict}
use Rattle.tftp_judge.specs.declared.verdict.Verdict.TheVariants.{Capture, Refused}

-- the datagrams without the numbers of their lines
abbrev pub unnumbered : List Numbered → List Datagram
unnumbered datagrams = map (λ d. d.1) datagrams

-- What is said of datagrams, and that they are lawful: of what they are taken for.
abbrev pub IsSaidBy : Option Rollover → Result Meaning Refusal → Header → List Datagram → Type 0
IsSaidBy rollover said = HoldsBy rollover (λ header datagrams. IsVerdict header datagrams said)

abbrev pub IsLawfulBy : Option Rollover → Header → List Datagram → Type 0
IsLawfulBy rollover = HoldsBy rollover IsLawful

-- the text begins with datagrams of which this is said
abbrev pub BeginsBy : Option Rollover → List ℕ → Result Meaning Refusal → Type 0
BeginsBy rollover text said = (header : Header) × (datagrams : List Numbered) × Begins text header datagrams × IsSaidBy rollover said header (unnumbered datagrams)

-- the text is a capture of datagrams of which this is said
abbrev pub IsCaptureBy : Option Rollover → List ℕ → Result Meaning Refusal → Type 0
IsCaptureBy rollover text said = (header : Header) × (datagrams : List Numbered) × IsCapture text header datagrams × IsSaidBy rollover said header (unnumbered datagrams)

-- the datagrams that a text begins with are lawful, however many of them one takes
abbrev pub AllLawful : Option Rollover → List ℕ → Type 0
AllLawful rollover text = (header : Header) (datagrams : List Numbered) → Begins text header datagrams → IsLawfulBy rollover header (unnumbered datagrams)

-- the same of those on the lines before this one
abbrev pub LawfulBefore : Option Rollover → List ℕ → ℕ → Type 0
LawfulBefore rollover text line =
    (header : Header) (datagrams : List Numbered) → Begins text header datagrams → All (λ d. d.0 < line) datagrams → IsLawfulBy rollover header (unnumbered datagrams)

-- ---- being out of memory

-- What was read is what was taken, and what a reader has read ahead of that.
abbrev pub IsReadTo : List ℕ → List ℕ → List ℕ → Type 0
IsReadTo read taken ahead = (read ≡ taken ++ ahead) × (length ahead ≤ most_ahead)

-- The reader wanted memory for this line: the first, before any byte was read, or the last that was taken, which says a
-- datagram.
pub record WantsToRead (read : List ℕ) (line : ℕ) : Type 0 where
  pub taken : List ℕ
  pub ahead : List ℕ
  pub datagrams : List Numbered
  pub to : IsReadTo read taken ahead
  pub wants : ((read ≡ []) × (line ≡ 1)) ⊎ SaysOneMore taken datagrams line

-- memory is taken for the last datagram
pub record TakesForLast (header : Header) (datagrams : List Datagram) : Type 0 where
  pub before : List Datagram
  pub last : Datagram
  pub are : datagrams ≡ before ++ last ∷ []
  pub takes : TakesMemory header (reverse before) last

-- The judge wanted memory for the last datagram on the lines that were taken, which has so many before it: with it they are
-- lawful, and it is one for which memory is taken.
pub record WantsToJudge (rollover : Option Rollover) (read : List ℕ) (count : ℕ) : Type 0 where
  pub taken : List ℕ
  pub ahead : List ℕ
  pub to : IsReadTo read taken ahead
  pub version : Version
  pub lines : List (List ℕ)
  pub header : Header
  pub datagrams : List Numbered
  pub last : Numbered
  pub stands : Stands taken lines [] (Body version header) (datagrams ++ last ∷ [])
  pub count_is : count ≡ length datagrams
  pub lawful : IsLawfulBy rollover header (unnumbered (datagrams ++ last ∷ []))
  pub takes : HoldsBy rollover TakesForLast header (unnumbered (datagrams ++ last ∷ []))

-- ---- what is said

-- memory may be wanted for the first line, before any byte is read, and for a line that says a datagram
abbrev pub MayWantAt : List ℕ → ℕ → Type 0
MayWantAt text line = (line ≡ 1) ⊎ ((header : Header) × (datagrams : List Numbered) × (datagram : Datagram) × Begins text header (datagrams ++ (line, datagram) ∷ []))

-- the text's fault, if it has one, is on this line or after it
abbrev pub NoFaultBefore : List ℕ → ℕ → Type 0
NoFaultBefore text line = (datagrams : List Numbered) (at : ℕ) (fault : TextFault) → HasFault text datagrams at fault → line ≤ at

-- a fault of the text or its reader, after datagrams that are lawful
abbrev pub IsFaultOf : Option Rollover → List ℕ → CaptureFault → Type 0
IsFaultOf rollover text (Text line fault) = ((datagrams : List Numbered) × HasFault text datagrams line fault) × AllLawful rollover text
IsFaultOf rollover text (Read line) = ((datagrams : List Numbered) × (due : Due) × Unfinished text datagrams line due) × AllLawful rollover text
IsFaultOf rollover text (Memory line) = MayWantAt text line × NoFaultBefore text line × LawfulBefore rollover text line

-- The first unlawful datagram on the lines before the text's first fault; else that fault; else what is said of the
-- datagrams. A text whose reading failed is what came before. Being out of memory may be said of the first line, or of one that
-- says a datagram, before which there is no fault and the datagrams are lawful; or of a datagram that takes memory after
-- others with which it is lawful; never of the meaning of all.
abbrev pub IsTextVerdictBy : Option Rollover → List ℕ → Result Meaning Verdict → Type 0
IsTextVerdictBy rollover text (Ok m) = IsCaptureBy rollover text (Ok m)
IsTextVerdictBy rollover text (Err (Refused (refusal.Unlawful index rule))) = BeginsBy rollover text (Err (refusal.Unlawful index rule))
IsTextVerdictBy rollover text (Err (Refused (refusal.Aborted by code))) = IsCaptureBy rollover text (Err (refusal.Aborted by code))
IsTextVerdictBy rollover text (Err (Refused (refusal.Incomplete count))) = IsCaptureBy rollover text (Err (refusal.Incomplete count))
IsTextVerdictBy rollover text (Err (Refused refusal.NormalTooLong)) = IsCaptureBy rollover text (Err refusal.NormalTooLong)
IsTextVerdictBy rollover text (Err (Refused (refusal.Memory count))) = (read more : List ℕ) × (text ≡ read ++ more) × WantsToJudge rollover read count
IsTextVerdictBy rollover text (Err (Capture fault)) = IsFaultOf rollover text fault

-- The same of what was read, where that is all: what comes after the being out of memory was read ahead.
abbrev pub IsReadVerdictBy : Option Rollover → List ℕ → Result Meaning Verdict → Type 0
IsReadVerdictBy rollover read (Err (Capture (Memory line))) = WantsToRead read line × LawfulBefore rollover read line
IsReadVerdictBy rollover read (Err (Refused (refusal.Memory count))) = WantsToJudge rollover read count
IsReadVerdictBy rollover read r = IsTextVerdictBy rollover read r

-- the same of a text whose blocks go up to 65535
abbrev pub IsTextVerdict : List ℕ → Result Meaning Verdict → Type 0
IsTextVerdict = IsTextVerdictBy None

abbrev pub IsReadVerdict : List ℕ → Result Meaning Verdict → Type 0
IsReadVerdict = IsReadVerdictBy None

-- being out of memory
abbrev pub WantsMemory : Result Meaning Verdict → Type 0
WantsMemory (Err (Capture (Memory line))) = Unit {0}
WantsMemory (Err (Refused (refusal.Memory count))) = Unit {0}
WantsMemory _ = ⊥

-- what is said only where the whole text was seen
abbrev pub EndsText : Result Meaning Verdict → Type 0
EndsText (Ok m) = Unit {0}
EndsText (Err (Refused (refusal.Unlawful index rule))) = ⊥
EndsText (Err (Refused (refusal.Aborted by code))) = Unit {0}
EndsText (Err (Refused (refusal.Incomplete count))) = Unit {0}
EndsText (Err (Refused refusal.NormalTooLong)) = Unit {0}
EndsText (Err (Refused (refusal.Memory count))) = ⊥
EndsText (Err (Capture fault)) = IsAtTextEnd fault

-- that a read failed
abbrev pub SaysReadFailed : Result Meaning Verdict → Type 0
SaysReadFailed (Ok m) = ⊥
SaysReadFailed (Err (Refused refusal)) = ⊥
SaysReadFailed (Err (Capture fault)) = IsReadFault fault

-- said of the text, and not of its reader or the memory
abbrev pub IsOfText : Result Meaning Verdict → Type 0
IsOfText (Ok m) = Unit {0}
IsOfText (Err (Refused (refusal.Unlawful index rule))) = Unit {0}
IsOfText (Err (Refused (refusal.Aborted by code))) = Unit {0}
IsOfText (Err (Refused (refusal.Incomplete count))) = Unit {0}
IsOfText (Err (Refused refusal.NormalTooLong)) = Unit {0}
IsOfText (Err (Refused (refusal.Memory count))) = ⊥
IsOfText (Err (Capture (Text line fault))) = Unit {0}
IsOfText (Err (Capture (Read line))) = ⊥
IsOfText (Err (Capture (Memory line))) = ⊥
