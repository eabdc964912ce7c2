-- What comes of two captures: the pair of transfers that is taken of them and judged, or what is told where none is.
use Rattle.std.specs.Prelude.{ℕ, Bool, List, Option, IfSome}
use Rattle.std.specs.Io.KnownBytes.{Appends}
use Rattle.tftp_packet.specs.{End, Client, Server}
use Rattle.audit_recording.specs.declared.session.fault.TextFault.{TextFault}
use Rattle.audit_recording.specs.declared.session.requests.Asked.{Asked}
use Rattle.tftp_rows.specs.Faults.{IsRemarkFault}
use Rattle.tftp_rows.specs.Remarks.{remark_text}
use Rattle.tftp_match.specs.Candidates.{AreMeant}
use Rattle.tftp_match.specs.Choice.{IsChoice, Texts}
use Rattle.tftp_match.specs.Faults.{IsLack}
use Rattle.tftp_match.specs.Given.{lack_words}
use Rattle.tftp_match.specs.Untaken.{Shown, untaken_text}
use Rattle.tftp_match.specs.declared.choice.Choice.{Choice}
use Rattle.tftp_match.specs.declared.choice.Choice.TheVariants.{Nothing, Taken}
use Rattle.tftp_match.specs.declared.choice.Judged.{Judged}
use Rattle.tftp_match.specs.declared.choice.Untaken.{Untaken}
use Rattle.tftp_match.specs.declared.faults.MatchFault.{MatchFault}
use Rattle.tftp_match.specs.declared.faults.MatchFault.TheVariants.{Alloc, Memory, Tell}
use Rattle.tftp_match.specs.declared.texts.LackFault.{LackFault}

-- This is what is chosen of transfers that were asked for this; these have the request of the other side.
pub record Chooses (texts : Texts) (clients servers : List Asked) (own others : List ℕ) (choice : Choice) : Type 0 where
  pub own_meant : AreMeant clients servers own
  pub others_meant : AreMeant servers clients others
  pub choice_is : IsChoice texts clients servers own others choice

-- the pair that is chosen was judged
abbrev pub IsTaken : Texts → List Asked → List Asked → Judged → Type 0
IsTaken texts clients servers judged = (own others : List ℕ) × Chooses texts clients servers own others (Taken judged)

-- none is, and that is told
abbrev pub IsUntaken : Texts → Shown → Shown → List ℕ → Option (List ℕ) → Option (List ℕ) → Type 0
IsUntaken texts client server program before after =
    (own others : List ℕ) × (why : Untaken) × Chooses texts client.asked server.asked own others (Nothing why)
    × Appends before after (untaken_text program client server own others why)

abbrev pub file_at : End → Shown → Shown → List ℕ
file_at Client client server = client.file
file_at Server client server = server.file

abbrev pub lack_at : End → (ℕ → TextFault → Type 0) → (ℕ → TextFault → Type 0) → ℕ → TextFault → Type 0
lack_at Client client server = client
lack_at Server client server = server

-- a transfer at an end has no text, and that is told, where its words are known
abbrev pub IsLackTold : (ℕ → TextFault → Type 0) → (ℕ → TextFault → Type 0) → Shown → Shown → List ℕ → Option (List ℕ) → Option (List ℕ) → Type 0
IsLackTold client_lacks server_lacks client server program before after =
    (end : End) × (number : ℕ) × (fault : LackFault) × IsLack (lack_at end client_lacks server_lacks number) fault × IfSome (lack_words fault) (λ w. Appends before after (remark_text program (file_at end client server) w))

-- memory ran out, or what there is to tell is not told: memory was refused for it, or a write on standard error has failed
abbrev pub IsUntold : Bool → MatchFault → Type 0
IsUntold unheard (Alloc e) = Unit {0}
IsUntold unheard Memory = Unit {0}
IsUntold unheard (Tell fault) = IsRemarkFault unheard fault
IsUntold unheard _ = ⊥
