-- What becomes of an accusation where the recorder says that it lost packets. Lists have the newest first.
use Rattle.std.specs.Prelude.{◌≡◌, ◌&&◌, ◌∷◌, nat_lt, ℕ, Bool, List, [], Option, None}
use Rattle.audit_flows.specs.Lines.{Placed}
use Rattle.audit_flows.specs.{Transfer}
use Rattle.audit_recording.specs.{Accused, Telling}
use Rattle.audit_recording.specs.declared.blame.doubted.Doubted.{Doubted}
use Rattle.audit_recording.specs.declared.blame.reason.Reason.{Reason}
use Rattle.audit_recording.specs.Reasons.Listed.{where_so}
use Rattle.audit_recording.specs.Rows.Told.{is_refused}
use Rattle.audit_recording.specs.declared.blame.reason.Reason.TheVariants.{Dropped}
use Rattle.audit_rows.specs.Accusing.{accused_of_row}
use Rattle.audit_rows.specs.Doubting.{row_reasons}
use Rattle.audit_rows.specs.declared.charge.Charge.{Charge}
use Rattle.audit_rows.specs.declared.viewed.Viewed.{Viewed}

-- A refusal is doubtful where the recorder lost so many packets, of which one may explain it.
abbrev pub dropped_reasons : Bool → ℕ → List Reason
dropped_reasons is_refusal dropped = where_so (Dropped dropped) (is_refusal && nat_lt 0 dropped)

-- nobody, where a reason is listed
abbrev pub unless_listed : List Reason → Option Accused → Option Accused
unless_listed [] accused = accused
unless_listed (reason ∷ more) accused = None

-- It has the reasons of this row, and whom the row accuses.
pub record IsChargeOf (c : Charge) (x : Transfer) (whole : List Placed) (d : Doubted) (t : Telling) (v : Viewed) : Type 0 where
  pub reasons : c.reasons.items ≡ row_reasons x whole d t v
  pub accused : c.accused ≡ accused_of_row x whole t v.blamed (row_reasons x whole d t v)
  pub refusal : c.is_refusal ≡ is_refused t.said
