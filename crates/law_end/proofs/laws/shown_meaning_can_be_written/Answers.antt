use Rattle.law_end.proofs.Written.Written.{shown_can_be_written}
use Rattle.law_end.proofs.laws.shown_meaning_can_be_written.Goals as goal

pub returns : goal.returns
returns c = shown_can_be_written
