use Rattle.audit_recording.proofs.LossesLemmas.Changing.{on_ok}
use Rattle.audit_recording.proofs.LossesLemmas.Standing.{asked_at_host}
use Rattle.audit_recording.proofs.session.losses.Losses.ask.Goals as goal

pub returns : goal.returns
returns c = λ history are after.
    on_ok c.ask_at.result (λ changes. asked_at_host c.args.self.now c.ask_at.new.hosts c.ask.new.self history c.args.host c.args.frame after changes c.ask.ensures are) c.ask_at.ensures
