use Rattle.std.proofs.Common.{subst, sym, ◌∙◌}
use Rattle.tftp_ends.specs.Blocks.{IsPending, numbered}
use Rattle.tftp_ends.proofs.BlocksLemmas.Ring.{none_kept}
use Rattle.tftp_ends.proofs.blocks.ring_delivered.RingDelivered.kept.Goals as goal

pub returns-clause-none : goal.returns-clause-none
returns-clause-none c = λ none. c.kept.ensures
    ∙ none_kept _ _ _ _ _ _ _ c.self.invariant.0 c.self.invariant.1 (subst (λ m. IsPending (numbered 1 m.0) 0) (sym c.self.view_is) none)
