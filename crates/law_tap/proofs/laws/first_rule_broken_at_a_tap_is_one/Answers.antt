use Rattle.law_tap.proofs.TapOne.{first_broken_one, refused_not_lawful}
use Rattle.law_tap.proofs.laws.first_rule_broken_at_a_tap_is_one.Goals as goal

pub returns : goal.returns
returns c = record { one = first_broken_one; refused = refused_not_lawful }
