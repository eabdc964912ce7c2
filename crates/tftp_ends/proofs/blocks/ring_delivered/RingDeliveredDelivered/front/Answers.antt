use Rattle.std.proofs.Common.{subst}
use Rattle.tftp_ends.specs.Blocks.{IsHeldFront, numbered}
use Rattle.tftp_ends.proofs.BlocksLemmas.Ring.{front_is}
use Rattle.tftp_ends.proofs.blocks.ring_delivered.RingDeliveredDelivered.front.Goals as goal

pub returns : goal.returns
returns c = subst (λ m. IsHeldFront (numbered 1 m.0) c.self.inside.front) c.self.view_is (front_is _ _ _ _ c.self.invariant.0.gap)
