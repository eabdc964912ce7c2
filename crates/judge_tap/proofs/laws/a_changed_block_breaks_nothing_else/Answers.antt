use Rattle.judge_tap.proofs.ChangedFirst.{changed_alone}
use Rattle.judge_tap.proofs.laws.a_changed_block_breaks_nothing_else.Goals as goal

pub returns : goal.returns
returns c = λ s earlier d broken apart passes told changed breaks. changed_alone s apart earlier passes d told changed broken breaks
