use Rattle.law_tap.proofs.Apart.{earlier_passed}
use Rattle.law_tap.proofs.laws.each_earlier_list_is_tapped.Goals as goal

pub returns : goal.returns
returns c = earlier_passed
