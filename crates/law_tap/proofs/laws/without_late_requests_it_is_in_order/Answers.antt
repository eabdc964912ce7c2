use Rattle.law_tap.proofs.Ordered.{in_order}
use Rattle.law_tap.proofs.laws.without_late_requests_it_is_in_order.Goals as goal

pub returns : goal.returns
returns c = in_order
