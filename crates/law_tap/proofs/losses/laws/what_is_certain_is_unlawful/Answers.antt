use Rattle.law_tap.proofs.Certain.{not_before_refusal}
use Rattle.law_tap.proofs.losses.laws.what_is_certain_is_unlawful.Goals as goal

pub returns : goal.returns
returns c = not_before_refusal
