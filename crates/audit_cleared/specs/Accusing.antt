-- Rows that accuse nobody. Lists have the newest first.
use Rattle.std.specs.Prelude.{◌≡◌, ℕ, List, [], ◌∷◌, Some, None}
use Rattle.audit_flows.specs.{Transfer}
use Rattle.audit_flows.specs.Transfers.{server_of}
use Rattle.audit_recording.specs.{Telling}
use Rattle.audit_recording.specs.Blame.Frames.{Carried, Framed, seen_as, whole_of}
use Rattle.audit_recording.specs.Judges.{opened}
use Rattle.audit_recording.specs.declared.blame.doubted.Doubted.{Doubted}
use Rattle.audit_recording.specs.declared.rows.row.Point.{Point}
use Rattle.audit_recording.specs.declared.rows.row.Point.TheVariants.{Between}
use Rattle.audit_rows.specs.Accusing.{accused_of_row}
use Rattle.audit_rows.specs.Doubting.{row_reasons}
use Rattle.audit_rows.specs.Viewing.{IsViewBy, number_in, said_in}
use Rattle.audit_rows.specs.declared.viewed.Viewed.{Viewed}

-- A request opened the transfer, where no service port is named; and a row tells the verdict on what this point saw of it, with its doubts,
-- where block numbers do not begin again.
pub record TellsOf (at : Point) (x : Transfer) (carried : List Carried) (d : Doubted) (t : Telling) (v : Viewed) : Type 0 where
  pub opens : opened x.number (whole_of [] carried) ≡ Some x
  pub view : IsViewBy None at x [] carried v
  pub doubts : d.doubts.number ≡ x.number
  pub point : t.point ≡ at
  pub said : t.said ≡ said_in v

-- the row accuses neither end
abbrev pub AccusesNobody : Transfer → List Carried → Doubted → Telling → Viewed → Type 0
AccusesNobody x carried d t v = accused_of_row x (whole_of [] carried) t v.blamed (row_reasons x (whole_of [] carried) d t v) ≡ None

-- Of what is refused between the ends: up to that datagram the recording tells the server that all of it tells, as it does once the client
-- has gone on with it.
abbrev pub IsServerKnown : Transfer → List Carried → Viewed → Type 0
IsServerKnown x carried v = (number : ℕ) (f : Framed) → number_in v.found ≡ Some number → seen_as Between x.number [] carried number ≡ Some f
    → server_of x.number (f.placed ∷ f.before) ≡ server_of x.number (whole_of [] carried)
