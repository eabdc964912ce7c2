use Rattle.std.proofs.Common.{◌∷◌, option_copied, refl, subst}
use Rattle.audit_recording.specs.Judges.Kept.{BetweenStands}
use Rattle.audit_views.specs.Parties.{host_name}
use Rattle.audit_recording.proofs.blame.blame.take_between.Goals as goal

pub returns-in-Some : goal.returns-in-Some
returns-in-Some c rollover x f whole frames some are is about own ends all stands =
    let stands_there = subst (λ o. BetweenStands rollover (option_copied o) x host_name (f.placed ∷ whole)) c.in-Some.is stands in
    c.take.ensures rollover x f whole frames are is about own ends all (c.told_between.ensures rollover x (f.placed ∷ whole) stands_there.0 own ends (stands_there.1 refl))
