use Rattle.std.proofs.Common.{subst, ℕ}
use Rattle.tftp_ends.specs.Blocks.{IsHeldFront, IsJoin, numbered}
use Rattle.tftp_ends.proofs.BlocksLemmas.Ring.{join_is}
use Rattle.tftp_ends.proofs.blocks.ring_delivered.RingDeliveredDelivered.into_wire.Goals as goal

pub returns-clause-joined : goal.returns-clause-joined
returns-clause-joined c = subst (λ m. (front : ℕ) → IsHeldFront (numbered 1 m.0) front → IsJoin (numbered 1 m.0) front c.self.inside.joined.items) c.self.view_is
    (join_is _ _ _ _ c.self.invariant.0.row c.self.invariant.0.gap)
