use Rattle.std.proofs.Common.{◌∷◌, subst}
use Rattle.audit_recording.specs.Between.{IsBetweenAfterBy}
use Rattle.audit_flows.proofs.TransfersLemmas.OwnDatagrams.{about_none}
use Rattle.audit_views.specs.Views.{Naming, IsFed, held_of}
use Rattle.audit_recording.proofs.JudgesLemmas.Watching.{on_ok_when}
use Rattle.audit_recording.proofs.judges.point.BetweenViewPointJudge.take.Goals as goal

pub returns-clause-stands : goal.returns-clause-stands
returns-clause-stands g c rollover name p older stands fed =
    on_ok_when (IsBetweenAfterBy rollover c.feed.new.self (p ∷ older)) c.feed.result
    (λ is. c.feed.ensures.by_rollover rollover p older (stands is) (subst (λ (n : Naming). IsFed n p (held_of c.args.fed.now)) is fed))

pub returns-clause-others : goal.returns-clause-others
returns-clause-others g c p there off = c.feed.ensures.others p there (about_none c.args.self.now.transfer.number p off)
