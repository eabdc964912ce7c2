use Rattle.std.proofs.Common.{arith}
use Rattle.net_streams.proofs.DigitsLemmas.Lanes.{block_written}
use Rattle.net_streams.proofs.digits.writing.encode_half.Goals as goal

pub returns-clause-written : goal.returns-clause-written
returns-clause-written c =
    block_written c.args.bytes.now c.args.digits.now c.digits_of_16.result 16 c.args.from (omega arith) c.requires.len c.digits_of_16.ensures c.requires.written
