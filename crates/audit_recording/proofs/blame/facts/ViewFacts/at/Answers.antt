use Rattle.audit_recording.proofs.BlameLemmas.Holding.{found_at}
use Rattle.audit_recording.proofs.blame.facts.ViewFacts.at.Goals as goal

pub returns-in-None : goal.returns-in-None
returns-in-None c rollover x whole frames are own ends held =
    found_at rollover c.args.self.now c.args.point x whole frames c.args.number c.args.ends.now.number c.find.result c.in-None.is own (λ above. c.find.ensures whole ends above) are held
