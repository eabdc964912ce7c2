use Rattle.std.proofs.Common.{◌≡◌, IsTrue, true, nat_eq, ◌↔◌, ◌∙◌, subst}
use Rattle.std.proofs.lemmas.Bool.{eqb-true}
use Rattle.tftp_ends.specs.{Receives, HoldsWire, IsReceiverAfter, IsAllTaken}
use Rattle.tftp_ends.proofs.AllDone.{receiver_done, receiver_not_done, receiver_holds}
use Rattle.tftp_ends.proofs.receiver_state.ReceiverState.done.Goals as goal

pub returns-then-last-from-clause-done : goal.returns-then-last-from-clause-done
returns-then-last-from-clause-done g c = λ passed.
    subst (λ r. IsReceiverAfter r passed → (IsTrue (nat_eq c.in-Some.last c.from-then-last-from.result) ↔ IsAllTaken r.terms passed)) c.self.view_is
    (λ after. receiver_done _ c.self.invariant.0 passed after c.in-Some.last c.front.result c.in-Some.ensures c.front.ensures c.from.result c.from-then-last-from.result c.from.ensures c.from-then-last-from.ensures c.if-last-from.true)

pub returns-else-last-from-clause-done : goal.returns-else-last-from-clause-done
returns-else-last-from-clause-done g c = λ passed.
    subst (λ r. IsReceiverAfter r passed → (IsTrue (nat_eq c.in-Some.last c.from.result) ↔ IsAllTaken r.terms passed)) c.self.view_is
    (λ after. receiver_not_done _ c.self.invariant.0 passed after c.in-Some.last c.front.result c.in-Some.ensures c.front.ensures c.from.result c.from.ensures c.if-last-from.false)

pub returns-then-last-from-clause-whole : goal.returns-then-last-from-clause-whole
returns-then-last-from-clause-whole g c = λ passed.
    subst (λ r. IsReceiverAfter r passed → nat_eq c.in-Some.last c.from-then-last-from.result ≡ true → HoldsWire (Receives r) passed) c.self.view_is
    (λ after yes. receiver_holds _ c.self.invariant.0 passed after c.in-Some.last c.front.result c.in-Some.ensures c.front.ensures (c.if-last-from.true ∙ c.from.ensures))

pub returns-else-last-from-clause-whole : goal.returns-else-last-from-clause-whole
returns-else-last-from-clause-whole g c = λ passed.
    subst (λ r. IsReceiverAfter r passed → nat_eq c.in-Some.last c.from.result ≡ true → HoldsWire (Receives r) passed) c.self.view_is
    (λ after yes. absurd (c.if-last-from.false (eqb-true c.in-Some.last c.from.result yes)))
