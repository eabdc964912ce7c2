use Rattle.law_rollover.proofs.laws.the_first_round_is_read_as_it_is.Goals as goal
use Rattle.law_rollover.proofs.Readings.{all_low}

pub returns : goal.returns
returns c r h low timely = all_low r h low timely
