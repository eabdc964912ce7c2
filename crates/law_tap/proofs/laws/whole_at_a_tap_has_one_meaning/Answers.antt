use Rattle.law_tap.proofs.OneTap.{shown_one}
use Rattle.law_tap.proofs.laws.whole_at_a_tap_has_one_meaning.Goals as goal

pub returns : goal.returns
returns c = shown_one
