use Rattle.law_tap.proofs.InOrder.{breaks_none, shown_in_order}
use Rattle.law_tap.proofs.laws.a_tap_in_order_breaks_no_rule.Goals as goal

pub returns : goal.returns
returns c = record { rules = breaks_none; whole = shown_in_order }
