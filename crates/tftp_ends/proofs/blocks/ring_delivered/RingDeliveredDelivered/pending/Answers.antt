use Rattle.std.proofs.Common.{subst, sym, ◌<◌}
use Rattle.tftp_ends.specs.Blocks.{IsPending, numbered}
use Rattle.tftp_ends.proofs.BlocksLemmas.Ring.{pending_is, pending_fewer}
use Rattle.tftp_ends.proofs.blocks.ring_delivered.RingDeliveredDelivered.pending.Goals as goal

pub returns-clause-count : goal.returns-clause-count
returns-clause-count c = subst (λ m. IsPending (numbered 1 m.0) c.self.inside.waiting) c.self.view_is
    (pending_is c.self.inside.block_size c.self.inside.front c.self.inside.joined.items c.self.inside.pending.0 c.self.inside.waiting c.self.invariant.0.gap c.self.invariant.0.count)

pub returns-clause-fewer : goal.returns-clause-fewer
returns-clause-fewer c = subst (λ m. c.self.inside.waiting < m.2) c.self.view_is
    (subst (λ n. n < c.self.inside.window) (sym c.self.invariant.0.count) (pending_fewer _ _ c.self.invariant.0.gap c.self.invariant.0.within c.self.invariant.0.sizes.1))
