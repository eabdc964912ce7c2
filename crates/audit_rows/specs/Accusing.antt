-- Whom a row accuses. Lists have the newest first.
use Rattle.std.specs.Prelude.{◌&&◌, ◌∷◌, not, Bool, true, false, List, [], Option, Some, None, option_map, if◌then◌else◌}
use Rattle.audit_flows.specs.Lines.{Placed}
use Rattle.audit_flows.specs.{Transfer}
use Rattle.audit_recording.specs.{Accused}
use Rattle.audit_recording.specs.declared.blame.blame.Blamed.{Blamed}
use Rattle.audit_recording.specs.declared.blame.reason.Reason.{Reason}
use Rattle.audit_recording.specs.Rows.Accusing.{role_at}
use Rattle.audit_recording.specs.Rows.Told.{is_refused, telling_depends}
use Rattle.audit_recording.specs.declared.rows.telling.Telling.{Telling}

-- The end that sent the datagram, if the row tells a refusal that does not depend on the place; no stranger (RFC 1350, section 4).
abbrev pub accused_by : Transfer → List Placed → Telling → Blamed → Option Accused
accused_by x whole t b =
    if is_refused t.said && not (telling_depends t) then option_map (λ role. record { role = role; end = b.source }) (role_at x whole b.source)
    else None

abbrev pub is_listed : List Reason → Bool
is_listed [] = false
is_listed (reason ∷ more) = true

-- whom a row accuses that tells so of that datagram, with these reasons for doubt: nobody where there is one
abbrev pub accused_of_row : Transfer → List Placed → Telling → Option Blamed → List Reason → Option Accused
accused_of_row x whole t (Some b) [] = accused_by x whole t b
accused_of_row x whole t (Some b) (reason ∷ more) = None
accused_of_row x whole t None reasons = None
