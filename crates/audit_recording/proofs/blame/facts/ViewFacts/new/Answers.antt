use Rattle.std.proofs.Common.{None, refl}
use Rattle.audit_recording.proofs.BlameLemmas.Holding.{facts_new}
use Rattle.audit_recording.proofs.blame.facts.ViewFacts.new.Goals as goal

pub returns : goal.returns
returns c rollover point x whole frames unheard = facts_new rollover (record { forgotten = 0; held = c.new.result; refused = None }) point x whole frames refl c.new.ensures.items refl unheard
