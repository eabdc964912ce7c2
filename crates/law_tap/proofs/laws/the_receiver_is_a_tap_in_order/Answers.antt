use Rattle.law_tap.proofs.AtReceiver.{receiver_is}
use Rattle.law_tap.proofs.laws.the_receiver_is_a_tap_in_order.Goals as goal

pub returns : goal.returns
returns c = receiver_is
