use Rattle.law_tap.proofs.CertainBetween.{seen_passed}
use Rattle.law_tap.proofs.losses_between.laws.what_an_end_was_seen_to_do_passed.Goals as goal

pub returns : goal.returns
returns c = seen_passed
