use Rattle.std.proofs.Common.{arith}
use Rattle.std.proofs.lemmas.List.{take_rest, length-take-le}
use Rattle.net_streams.proofs.DigitsLemmas.InPieces.{front_is, last_decoded, refused_front, refused_rest}
use Rattle.net_streams.proofs.digits.reading.decode_last.Goals as goal

pub returns-then-decode_8-clause-decoded : goal.returns-then-decode_8-clause-decoded
returns-then-decode_8-clause-decoded c = λ good.
    last_decoded c.args.digits.now _ c.decode_8-2.new.bytes c.decode_each-then-decode_8.new.bytes 4 _ (omega arith) (omega arith) (omega arith) (front_is 4 _ _ (omega (arith, length-take-le 4 c.args.bytes.now (omega arith))))
    (c.decode_8-2.ensures.decoded c.if-decode_8.true) (rw take_rest at c.decode_each-then-decode_8.ensures.decoded good)

pub returns-then-decode_8-clause-refused : goal.returns-then-decode_8-clause-refused
returns-then-decode_8-clause-refused c = λ bad. refused_rest c.args.digits.now 4 (omega arith) (omega arith) (rw take_rest at c.decode_each-then-decode_8.ensures.refused bad)

pub returns-else-decode_8-clause-refused : goal.returns-else-decode_8-clause-refused
returns-else-decode_8-clause-refused c = λ bad. refused_front c.args.digits.now 4 (omega arith) (omega arith) (c.decode_8-2.ensures.refused bad)
