use Rattle.law_tap.proofs.TapUnrolled.{in_one_way}
use Rattle.law_tap.proofs.numbers.laws.a_capture_between_is_unrolled_in_one_way.Goals as goal

pub returns : goal.returns
returns c r s tapped one other a b = in_one_way r s tapped one other a b
