use Rattle.std.proofs.Common.{Some, None, sym, ap, subst, ◌∙◌}
use Rattle.std.specs.BTreeMap.{get}
use Rattle.audit_flows.specs.Lines.{endpoint_cmp}
use Rattle.audit_recording.specs.Losses.Noted.{IsFirst, IsMissingOf, IsTold, Since}
use Rattle.audit_recording.proofs.LossesLemmas.Answering.{first_of_host, none_first, none_told, told_of_host}
use Rattle.audit_recording.proofs.session.losses.Losses.of.Goals as goal

pub returns-in-Some-clause-first : goal.returns-in-Some-clause-first
returns-in-Some-clause-first c = λ history are.
    subst (IsFirst (IsMissingOf c.args.stretch.now.client history)) (sym c.least.ensures)
    (first_of_host c.args.self.now history c.args.stretch.now.client (Some c.in-Some.losses.now) c.first.result c.first-in-Some.result
    (ap (get endpoint_cmp c.args.self.now.of_hosts) (sym c.key_of.ensures) ∙ sym c.in-Some.ensures.value) are c.first.ensures c.first-in-Some.ensures)

pub returns-in-Some-clause-within : goal.returns-in-Some-clause-within
returns-in-Some-clause-within c = λ history are asked.
    subst (IsTold (Since (IsMissingOf c.args.stretch.now.client history) c.args.stretch.now) c.args.stretch.now) (sym c.least-in-Some.ensures)
    (told_of_host c.args.self.now history c.args.stretch.now (Some c.in-Some.losses.now) c.first_since.result c.first_since-in-Some.result
    (ap (get endpoint_cmp c.args.self.now.of_hosts) (sym c.key_of.ensures) ∙ sym c.in-Some.ensures.value) are asked c.first_since.ensures c.first_since-in-Some.ensures)

pub returns-in-None-clause-first : goal.returns-in-None-clause-first
returns-in-None-clause-first c = λ history are.
    first_of_host c.args.self.now history c.args.stretch.now.client None None c.first-in-None.result
    (ap (get endpoint_cmp c.args.self.now.of_hosts) (sym c.key_of.ensures) ∙ sym c.in-None.ensures.value) are none_first c.first-in-None.ensures

pub returns-in-None-clause-within : goal.returns-in-None-clause-within
returns-in-None-clause-within c = λ history are asked.
    told_of_host c.args.self.now history c.args.stretch.now None None c.first_since-in-None.result
    (ap (get endpoint_cmp c.args.self.now.of_hosts) (sym c.key_of.ensures) ∙ sym c.in-None.ensures.value) are asked (none_told c.args.stretch.now) c.first_since-in-None.ensures
