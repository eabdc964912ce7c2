use Rattle.std.proofs.Common.{arith}
use Rattle.std.proofs.lemmas.List.{take_rest}
use Rattle.net_streams.proofs.DigitsLemmas.Lanes.{rest_written}
use Rattle.net_streams.proofs.digits.writing.encode.Goals as goal

pub returns : goal.returns
returns c = rest_written c.args.bytes.now _ _ c.encode_fours-done.result _ (omega arith) (omega arith) c.encode_fours-done.ensures.written (rw take_rest at c.encode_rest.ensures)
