use Rattle.std.proofs.Common.{ap, ◌∷◌}
use Rattle.audit_recording.proofs.blame.facts.ViewFacts.take.Goals as goal

pub returns : goal.returns
returns c rollover x f whole frames are is about own ends all told =
    c.note.ensures rollover x (f.placed ∷ whole) (f ∷ frames) (c.in_ok-see.ensures rollover c.args.point x f whole frames are is about) own ends (ap (λ l. f.placed ∷ l) all) told
