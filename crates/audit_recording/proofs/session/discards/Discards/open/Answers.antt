use Rattle.std.proofs.Common.{sym}
use Rattle.audit_recording.specs.Session.Discards.{before_opening, newest_at}
use Rattle.audit_recording.proofs.SessionLemmas.Discards.{discarding_it, discarding_none}
use Rattle.audit_recording.proofs.session.discards.Discards.open.Goals as goal

pub returns-in-Some-clause-is : goal.returns-in-Some-clause-is
returns-in-Some-clause-is c = λ gone stands.
    discarding_it c.args.trail.now c.discard.new.self (before_opening c.args.time (newest_at c.args.trail.now.transfer.client gone)) c.in-Some.frame (c.in-Some.ensures gone stands) c.discard.ensures.is

pub returns-in-None-clause-is : goal.returns-in-None-clause-is
returns-in-None-clause-is c = λ gone stands. discarding_none c.args.trail.now (before_opening c.args.time (newest_at c.args.trail.now.transfer.client gone)) (sym (c.in-None.ensures gone stands))
