use Rattle.std.proofs.Common.{refl}
use Rattle.audit_recording.proofs.BlameLemmas.Holding.{facts_held, facts_kept}
use Rattle.audit_recording.proofs.blame.facts.ViewFacts.see.Goals as goal

pub returns-in-Some : goal.returns-in-Some
returns-in-Some c rollover point x f whole frames are is about = facts_kept rollover c.args.self.now c.in-Some.field-0 point x f whole frames c.in-Some.is are

pub returns-in_ok-push-in-None : goal.returns-in_ok-push-in-None
returns-in_ok-push-in-None c rollover point x f whole frames are is about =
    facts_held rollover c.args.self.now (record { forgotten = c.args.self.now.forgotten; held = c.push.new.self; refused = c.args.self.now.refused }) point x f whole frames c.args.passed refl refl c.in_ok-push-in-None.ensures.items is about are
