use Rattle.std.proofs.Common.{◌≡◌, ℕ, take, ◌==◌, ◌||◌}
use Rattle.std.specs.List.{list_any}
use Rattle.std.specs.Ordering.{nat_cmp, is_eq}
use Rattle.audit_flows.proofs.transfers.attribution.services_of.Given as goal

abbrev pub invariant-loop-port : goal.invariant-loop-port
invariant-loop-port l = (port : ℕ) → list_any (λ n. is_eq (nat_cmp port n)) l.ports.keys ≡ ((port == 69) || list_any (λ n. n == port) (take l.port-index l.named))
