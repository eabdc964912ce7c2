use Rattle.std.proofs.Common.{MatchBool, sym, subst}
use Rattle.audit_recording.specs.Losses.Kept.{of_host}
use Rattle.audit_recording.specs.Session.Over.{IsWaitingAt}
use Rattle.audit_recording.proofs.LossesLemmas.Waiting.{HasNone, HasOne, own_waits, unknown_told}
use Rattle.audit_recording.proofs.session.losses.Losses.is_waiting.Goals as goal

pub returns-then-is_waiting_there : goal.returns-then-is_waiting_there
returns-then-is_waiting_there c = λ history are.
    let host = c.args.host in
    let own = of_host c.args.self.now.of_hosts host in
    let one : HasOne own = subst (λ b. MatchBool b (HasOne own) (HasNone own)) c.if-is_waiting_there.true c.is_waiting_there.ensures in
    subst (λ b. MatchBool b (IsWaitingAt host history) (IsWaitingAt host history → ⊥)) (sym c.if-is_waiting_there.true) (own_waits c.args.self.now history host are one)

pub returns-else-is_waiting_there : goal.returns-else-is_waiting_there
returns-else-is_waiting_there c = λ history are.
    let own = of_host c.args.self.now.of_hosts c.args.host in
    let none : HasNone own = subst (λ b. MatchBool b (HasOne own) (HasNone own)) c.if-is_waiting_there.false c.is_waiting_there.ensures in
    unknown_told c.args.self.now history c.args.host c.is_waiting.result are none c.is_waiting.ensures
