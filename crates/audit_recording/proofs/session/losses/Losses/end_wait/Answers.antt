use Rattle.std.proofs.Common.{None, ◌∙◌}
use Rattle.audit_recording.specs.Losses.Noted.{waiting_at}
use Rattle.audit_recording.proofs.LossesLemmas.Standing.{by_number, ended_between, ended_of_none, none_ended, none_was, of_two, some_was, two_are_known}
use Rattle.audit_recording.proofs.session.losses.Losses.end_wait.Goals as goal

pub returns-in_err-ended-clause-stands : goal.returns-in_err-ended-clause-stands
returns-in_err-ended-clause-stands c = λ history are.
    none_ended c.args.self.now c.remove.new.self history c.args.frame
    (none_was (waiting_at c.args.frame history) (c.in_err-ended.ensures.value ∙ are.waits c.args.frame))
    (by_number c.args.self.now.waiting c.remove.new.self c.args.frame None c.in_err-ended.ensures.updates.0) are

pub returns-in-Some-clause-stands : goal.returns-in-Some-clause-stands
returns-in-Some-clause-stands c = λ history are.
    let was = some_was (waiting_at c.args.frame history) c.in_ok-ended.ended (c.in_ok-ended.ensures.value ∙ are.waits c.args.frame) in
    ended_between c.args.self.now c.end_wait_at.new.hosts c.end_wait_at-in-Some.new.hosts c.remove.new.self history c.args.frame was.0 c.address_of.result c.address_of-in-Some.result was.1
    (of_two was.0 c.in-Some.source c.in-Some.target c.address_of.result c.address_of-in-Some.result (was.2 ∙ c.in-Some.is) c.address_of.ensures.same c.address_of-in-Some.ensures.same)
    (two_are_known was.0 c.in-Some.source c.in-Some.target (was.2 ∙ c.in-Some.is))
    c.end_wait_at.ensures c.end_wait_at-in-Some.ensures
    (by_number c.args.self.now.waiting c.remove.new.self c.args.frame None c.in_ok-ended.ensures.updates.0) are

pub returns-in-None-clause-stands : goal.returns-in-None-clause-stands
returns-in-None-clause-stands c = λ history are.
    let was = some_was (waiting_at c.args.frame history) c.in_ok-ended.ended (c.in_ok-ended.ensures.value ∙ are.waits c.args.frame) in
    ended_of_none c.args.self.now c.end_wait.new.self c.remove.new.self history c.args.frame was.0 was.1 (was.2 ∙ c.in-None.is) c.end_wait.ensures
    (by_number c.args.self.now.waiting c.remove.new.self c.args.frame None c.in_ok-ended.ensures.updates.0) are
