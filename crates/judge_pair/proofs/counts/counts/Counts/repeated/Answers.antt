use Rattle.std.proofs.Common.{ap, subst, slice_index_or}
use Rattle.judge_pair.specs.Counts.{Answers, Counted, IsSurplus, taken}
use Rattle.judge_pair.proofs.counts.counts.Counts.repeated.Goals as goal

pub returns : goal.returns
returns c sender receiver from to =
    let counted = rw (ap (λ (x : Counted). x.0) c.self.view_is) at (rw (ap (λ (x : Counted). x.1) c.to.view_is) at c.surplus.ensures) in
    subst (λ less. Answers (IsSurplus (λ packet. taken packet receiver) less) c.surplus.result) (λ i packet. (from packet).0 i)
    (subst (λ more. Answers (IsSurplus more (λ packet. slice_index_or c.args.self.now.0 packet 0)) c.surplus.result) (λ i packet. (to packet).1 i) counted)
