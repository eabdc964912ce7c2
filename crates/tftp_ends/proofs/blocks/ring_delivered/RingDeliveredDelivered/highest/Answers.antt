use Rattle.std.proofs.Common.{subst, ◌+◌, ◌≡◌, length, arith}
use Rattle.tftp_ends.specs.Blocks.{IsHighest, IsOrderly, numbered}
use Rattle.tftp_ends.proofs.BlocksLemmas.Places.{row_even}
use Rattle.tftp_ends.proofs.BlocksLemmas.Ring.{highest_is, orderly_slots}
use Rattle.tftp_ends.proofs.blocks.ring_delivered.RingDeliveredDelivered.highest.Goals as goal

pub returns-clause-orderly : goal.returns-clause-orderly
returns-clause-orderly c = subst (λ m. IsOrderly m.1 (numbered 1 m.0)) c.self.view_is (orderly_slots _ _ (row_even _ _ _ _ c.self.invariant.0.row))

pub returns-clause-highest : goal.returns-clause-highest
returns-clause-highest c =
    let read = c.len.ensures in
    let same : c.self.inside.front + length c.self.inside.pending.0 ≡ c.self.inside.front + c.len.result = omega arith in
    subst (λ h. IsHighest (numbered 1 c.args.self.now.0) h) same
    (subst (λ m. IsHighest (numbered 1 m.0) (c.self.inside.front + length c.self.inside.pending.0)) c.self.view_is
    (highest_is _ _ _ _ c.self.invariant.0.row))
