-- Who the ends are stays, once it is known; and what is not of the transfer at its client tells nothing of them.
use Rattle.std.proofs.Common.{◌≡◌, ℕ, true, false, List, ◌++◌, ap}
use Rattle.audit_flows.specs.Lines.{Placed, is_of}
use Rattle.audit_flows.specs.{Transfer}
use Rattle.audit_flows.specs.Transfers.{is_settled}
use Rattle.audit_views.proofs.ViewsLemmas.Settling.{server_stays}
use Rattle.audit_recording.specs.Between.{sides_of, sides_with}

pub sides_stay : (x : Transfer) (more placed : List Placed) → is_settled x.number placed ≡ true → sides_of x (more ++ placed) ≡ sides_of x placed
sides_stay x more placed settled = ap (sides_with x) (server_stays x.number more placed settled)

-- ---- one that is not of the transfer at its client

pub itself : (n : ℕ) (p : Placed) → is_of n p ≡ false → is_of n p ≡ false
itself n p off = off
