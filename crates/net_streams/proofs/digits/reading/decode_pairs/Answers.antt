use Rattle.std.proofs.Common.{◌*◌, ◌/◌, arith, length}
use Rattle.std.proofs.lemmas.List.{take_rest, length-take-le}
use Rattle.net_streams.proofs.DigitsLemmas.InPieces.{front_is, last_decoded, refused_front, refused_rest}
use Rattle.net_streams.proofs.digits.reading.decode_pairs.Goals as goal

pub returns-then-decode_each-clause-decoded : goal.returns-then-decode_each-clause-decoded
returns-then-decode_each-clause-decoded c = λ good.
    last_decoded c.args.digits.now _ c.decode_each.new.bytes c.decode_few-then-decode_each.new.bytes _ _ (omega arith) (omega arith) (omega arith) (front_is (length c.args.bytes.now / 32 * 32) _ _ (omega (arith, length-take-le (length c.args.bytes.now / 32 * 32) c.args.bytes.now (omega arith))))
    (c.decode_each.ensures.decoded c.if-decode_each.true) (rw take_rest at c.decode_few-then-decode_each.ensures.decoded good)

pub returns-then-decode_each-clause-refused : goal.returns-then-decode_each-clause-refused
returns-then-decode_each-clause-refused c = λ bad. refused_rest c.args.digits.now _ (omega arith) (omega arith) (rw take_rest at c.decode_few-then-decode_each.ensures.refused bad)

pub returns-else-decode_each-clause-refused : goal.returns-else-decode_each-clause-refused
returns-else-decode_each-clause-refused c = λ bad. refused_front c.args.digits.now _ (omega arith) (omega arith) (c.decode_each.ensures.refused bad)
