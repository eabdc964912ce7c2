use Rattle.std.proofs.Common.{arith, ◌∙◌}
use Rattle.net_streams.proofs.DigitsLemmas.Joining.{lanes_decoded, lanes_refused, length_nibbles, loaded, pairs_of_8}
use Rattle.net_streams.proofs.digits.vectors.decode_8.Goals as goal

pub returns-clause-decoded : goal.returns-clause-decoded
returns-clause-decoded c =
    let are = loaded 8 c.args.digits.now c.nibbles-nibbles.result c.requires.digits c.nibbles-nibbles.ensures in
    let long = length_nibbles c.args.digits.now c.nibbles-nibbles.result are ∙ c.requires.digits in
    lanes_decoded _ c.nibbles-nibbles.result _ _ 8 are long (omega arith) (omega arith) (pairs_of_8 c.nibbles-nibbles.result long) (omega arith)

pub returns-clause-refused : goal.returns-clause-refused
returns-clause-refused c =
    let are = loaded 8 c.args.digits.now c.nibbles-nibbles.result c.requires.digits c.nibbles-nibbles.ensures in
    let long = length_nibbles c.args.digits.now c.nibbles-nibbles.result are ∙ c.requires.digits in
    lanes_refused _ c.nibbles-nibbles.result 8 are long (omega arith) (omega arith)
