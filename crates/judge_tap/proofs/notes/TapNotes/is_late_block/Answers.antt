use Rattle.judge_tap.proofs.StopsNoted.{late_block_is}
use Rattle.judge_tap.proofs.notes.TapNotes.is_late_block.Goals as goal

pub returns-in-Put : goal.returns-in-Put
returns-in-Put c = λ s passed are. late_block_is s passed c.usable.result c.args.side c.in-Put.is (c.usable.ensures s passed are)
