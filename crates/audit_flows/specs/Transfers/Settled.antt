-- When a recording has told who the ends of a transfer are. Lists have the newest first.
use Rattle.std.specs.Prelude.{ℕ, ◌&&◌, Bool, List, is_some}
use Rattle.audit_flows.specs.Lines.{Placed}
use Rattle.audit_flows.specs.Transfers.Views.{answered_by, asked_of, went_on_with}

-- it is known whom the client asked, who answered, and with whom the client went on
abbrev pub is_settled : ℕ → List Placed → Bool
is_settled n placed = is_some (asked_of n placed) && is_some (answered_by n placed) && is_some (went_on_with n placed)
