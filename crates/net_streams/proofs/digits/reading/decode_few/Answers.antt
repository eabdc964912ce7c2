use Rattle.std.proofs.Common.{◌≡◌, ◌+◌, ◌-◌, ◌*◌, arith, refl}
use Rattle.std.proofs.lemmas.List.{take_rest}
use Rattle.net_streams.proofs.DigitsLemmas.InPieces.{last_decoded, more_decoded, none_decoded, refused_piece, refused_rest}
use Rattle.net_streams.proofs.digits.reading.decode_few.Goals as goal

pub loop-bytes-init : goal.loop-bytes-init
loop-bytes-init c = record { within = omega arith; len = omega arith; decoded = none_decoded }

pub returns-then-not-decode_16-clause-refused : goal.returns-then-not-decode_16-clause-refused
returns-then-not-decode_16-clause-refused c = λ _.
    let size : 2 * c.loop-bytes.done + 16 - 2 * c.loop-bytes.done ≡ 16 = omega arith in
    refused_piece c.args.digits.now c.loop-bytes.done 8 (omega arith) (omega arith) (rw size at c.decode_16.ensures.refused c.if-not-decode_16.true)

pub loop-bytes-preserved : goal.loop-bytes-preserved
loop-bytes-preserved c =
    let size : 2 * c.loop-bytes.done + 16 - 2 * c.loop-bytes.done ≡ 16 = omega arith in
    record {
      within = omega arith;
      len = omega arith;
      decoded = more_decoded c.args.digits.now c.loop-bytes.bytes c.decode_16.new.bytes c.loop-bytes.done 8 _ (omega arith) (omega arith) (omega arith) c.loop-bytes.invariant.decoded
          (rw size at c.decode_16.ensures.decoded c.if-not-decode_16.false);
    }

pub returns-clause-decoded : goal.returns-clause-decoded
returns-clause-decoded c = λ good.
    last_decoded c.args.digits.now c.loop-bytes.bytes _ c.decode_last.new.bytes c.loop-bytes.done _ (omega arith) (omega arith) (omega arith) refl c.loop-bytes.invariant.decoded
    (rw take_rest at c.decode_last.ensures.decoded good)

pub returns-clause-refused : goal.returns-clause-refused
returns-clause-refused c = λ bad. refused_rest c.args.digits.now c.loop-bytes.done (omega arith) (omega arith) (rw take_rest at c.decode_last.ensures.refused bad)
