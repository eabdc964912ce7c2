use Rattle.law_rollover.proofs.OneWay.{in_one_way}
use Rattle.law_rollover.proofs.laws.a_capture_is_unrolled_in_one_way.Goals as goal

pub returns : goal.returns
returns c r h datagrams one other a b = in_one_way r h datagrams one other a b
