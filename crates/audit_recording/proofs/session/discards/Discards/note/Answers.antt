use Rattle.audit_recording.specs.Session.Discards.{Gone}
use Rattle.audit_recording.proofs.SessionLemmas.Discards.{gone_more}
use Rattle.audit_recording.proofs.session.discards.Discards.note.Goals as goal

pub returns : goal.returns
returns c = λ gone stands.
    let g : Gone = record { source = c.args.source; target = c.args.target; frame = c.args.frame; time = c.args.time } in
    gone_more c.args.self.now.newest c.insert.new.self c.insert-2.new.self g gone c.in_ok-insert.ensures.updates.0 c.in_ok-insert-2.ensures.updates.0 stands
