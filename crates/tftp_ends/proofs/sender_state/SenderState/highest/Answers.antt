use Rattle.std.proofs.Common.{ℕ, ◌≤◌, List, subst}
use Rattle.law_model.specs.Rules.{IsHigh}
use Rattle.tftp_ends.specs.{IsSenderAfter, Sender}
use Rattle.tftp_ends.proofs.Highest.{high_of_held, low_of_held}
use Rattle.tftp_ends.proofs.sender_state.SenderState.highest.Goals as goal

pub returns-clause-highest : goal.returns-clause-highest
returns-clause-highest g c = λ passed.
    subst (λ s. IsSenderAfter s passed → IsHigh passed c.highest.result) c.self.view_is (λ after. high_of_held passed _ _ after.blocks c.highest.ensures.highest)

pub returns-clause-low : goal.returns-clause-low
returns-clause-low g c = subst (λ (s : Sender). c.highest.result ≤ s.terms.greatest) c.self.view_is (low_of_held _ _ _ c.self.invariant.0.sound c.highest.ensures.highest)
