use Rattle.std.proofs.Common.{◌≡◌, IsTrue, true, nat_eq, ◌↔◌, ◌∙◌, subst}
use Rattle.std.proofs.lemmas.Bool.{eqb-true}
use Rattle.tftp_ends.specs.{Sends, HoldsWire, IsSenderAfter, IsAllAnswered}
use Rattle.tftp_ends.proofs.AllDone.{sender_done, sender_holds}
use Rattle.tftp_ends.proofs.sender_state.SenderState.done.Goals as goal

pub returns-in-Some-clause-done : goal.returns-in-Some-clause-done
returns-in-Some-clause-done g c = λ passed.
    subst (λ s. IsSenderAfter s passed → (IsTrue (nat_eq c.in-Some.last c.from.result) ↔ IsAllAnswered s.terms passed)) c.self.view_is
    (λ after. sender_done _ c.self.invariant.0 passed after c.in-Some.last c.in-Some.ensures c.from.result c.from.ensures)

pub returns-in-Some-clause-whole : goal.returns-in-Some-clause-whole
returns-in-Some-clause-whole g c = λ passed.
    subst (λ s. IsSenderAfter s passed → nat_eq c.in-Some.last c.from.result ≡ true → HoldsWire (Sends s) passed) c.self.view_is
    (λ after yes. sender_holds _ c.self.invariant.0 passed after c.in-Some.last c.in-Some.ensures (eqb-true c.in-Some.last c.from.result yes ∙ c.from.ensures))
