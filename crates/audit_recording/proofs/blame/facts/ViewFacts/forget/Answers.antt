use Rattle.std.proofs.Common.{refl}
use Rattle.audit_recording.proofs.BlameLemmas.Holding.{facts_forgotten}
use Rattle.audit_recording.proofs.blame.facts.ViewFacts.forget.Goals as goal

pub returns-in-None : goal.returns-in-None
returns-in-None c rollover point x whole frames are all accepts =
    facts_forgotten rollover (record { forgotten = c.args.count; held = c.clear.new.self; refused = c.args.self.now.refused }) point x whole frames c.args.count c.in-None.is refl c.clear.ensures.items all accepts
