use Rattle.std.proofs.Common.{◌≡◌, ◌+◌, ◌-◌, ◌*◌, ◌/◌, length, arith, refl}
use Rattle.std.proofs.lemmas.Slice.{drop-put_mid}
use Rattle.net_streams.proofs.DigitsLemmas.InPieces.{more_decoded, refused_more}
use Rattle.net_streams.proofs.digits.reading.decode_on.Goals as goal

pub returns-then-decode_pairs-clause-decoded : goal.returns-then-decode_pairs-clause-decoded
returns-then-decode_pairs-clause-decoded c =
    let count = length c.args.digits.now / 2 in
    let size : 2 * count - 2 * c.args.done ≡ 2 * (count - c.args.done) = omega arith in
    let all : c.args.done + (count - c.args.done) ≡ count = omega arith in (
      refl,
      rw all at
          (more_decoded c.args.digits.now c.args.bytes.now c.decode_pairs.new.bytes c.args.done (count - c.args.done) (count - c.args.done) (omega arith) (omega arith) (omega arith) c.requires.done
          ((rw size at c.decode_pairs.ensures.decoded) c.if-decode_pairs.true)),
    )

pub returns-else-decode_pairs-clause-refused : goal.returns-else-decode_pairs-clause-refused
returns-else-decode_pairs-clause-refused c = λ _.
    let count = length c.args.digits.now / 2 in
    let size : 2 * count - 2 * c.args.done ≡ 2 * (count - c.args.done) = omega arith in
    let all : c.args.done + (count - c.args.done) ≡ count = omega arith in
    rw all at (refused_more c.args.digits.now c.args.done (count - c.args.done) (omega arith) ((rw size at c.decode_pairs.ensures.refused) c.if-decode_pairs.false))

pub returns-then-decode_pairs-clause-behind : goal.returns-then-decode_pairs-clause-behind
returns-then-decode_pairs-clause-behind c = drop-put_mid c.args.done (length c.args.digits.now / 2 - c.args.done) c.args.bytes.now c.decode_pairs.new.bytes (length c.args.digits.now / 2) (omega arith) (omega arith) (omega arith)

pub returns-else-decode_pairs-clause-behind : goal.returns-else-decode_pairs-clause-behind
returns-else-decode_pairs-clause-behind c = drop-put_mid c.args.done (length c.args.digits.now / 2 - c.args.done) c.args.bytes.now c.decode_pairs.new.bytes (length c.args.digits.now / 2) (omega arith) (omega arith) (omega arith)
