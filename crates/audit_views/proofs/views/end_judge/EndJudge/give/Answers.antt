use Rattle.std.proofs.Common.{sym, subst}
use Rattle.tftp_capture.specs.{datagram_of}
use Rattle.audit_views.specs.Views.{HasJudgedBy, OneEnd}
use Rattle.audit_views.proofs.ViewsLemmas.Judging.{given_by, stands_on}
use Rattle.audit_views.proofs.views.end_judge.EndJudge.give.Goals as goal

pub invariant_of-self : goal.invariant_of-self
invariant_of-self g c = stands_on c.self.inside.rollover c.self.inside.judge c.feed.new.judge (datagram_of c.args.datagram) c.self.invariant c.feed.ensures.judged c.feed.ensures.for_good

pub returns-clause-judged : goal.returns-clause-judged
returns-clause-judged g c rollover h given plain judged =
    given_by c.self.inside.rollover c.self.inside.judge c.feed.new.judge (datagram_of c.args.datagram) c.self.invariant c.feed.ensures.judged c.feed.ensures.for_good rollover h given plain
    (subst (λ (e : OneEnd). HasJudgedBy rollover e.judge h given) (sym c.self.view_is) judged)
