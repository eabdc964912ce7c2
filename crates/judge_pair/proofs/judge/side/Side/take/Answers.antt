use Rattle.std.proofs.Common.{◌∙◌, subst}
use Rattle.judge_pair.specs.Judge.{AreMergedBut}
use Rattle.judge_pair.proofs.JudgeLemmas.Sides.{sides_stray}
use Rattle.judge_pair.proofs.judge.side.Side.take.Goals as goal

pub returns-else-accepted-clause-accepts : goal.returns-else-accepted-clause-accepts
returns-else-accepted-clause-accepts g c = λ h k read other_read d sides taken.
    let told = c.in_ok-accepted.ensures.accepts h read d sides.own_side taken in (
      told.0,
      sides_stray h k read other_read d c.feed.new.self c.args.other.now (c.feed.ensures.held ∙ c.requires.free) told.1 sides.other_side
          (subst (λ o. AreMergedBut o c.args.other.now.held h read k other_read) c.requires.free sides.merged) (told.2 ∙ c.if-accepted.false),
    )
