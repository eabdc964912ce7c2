use Rattle.judge_losses.proofs.Filled.{all_counted}
use Rattle.judge_losses.proofs.laws.places_count_all.Goals as goal

pub returns : goal.returns
returns c = all_counted
