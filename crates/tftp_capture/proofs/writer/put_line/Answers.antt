use Rattle.std.proofs.Common.{◌≡◌, ◌≢◌, ◌++◌, ◌∷◌, [], List, ℕ, length, length-append, arith, ap, refl}
use Rattle.std.proofs.lemmas.Bool.Decides.{nat_tests}
use Rattle.net_streams.proofs.StreamsLemmas.Gathering.{adds_err, adds_same, line_added, stops_short}
use Rattle.tftp_capture.specs.CaptureText.{payload_text}
use Rattle.tftp_capture.proofs.Spelling.{parts_digits}
use Rattle.tftp_capture.proofs.writer.put_line.Goals as goal

pub returns-then-head-rest-gt0 : goal.returns-then-head-rest-gt0
returns-then-head-rest-gt0 g c =
    let some : length (c.args.head.now ++ c.args.rest.now) ≢ 0 = grind (arith, nat_tests, length-append c.args.head.now c.args.rest.now) in
    let are = ap (λ l. c.args.begins.now ++ l) (parts_digits c.args.head.now c.args.rest.now some) in
    record { adds = adds_same g.W.Write.contents c.args.writer.now c.add_hex_line.new.self c.add_hex_line.result _ _ are c.add_hex_line.ensures.adds }

pub returns-in_err-add : goal.returns-in_err-add
returns-in_err-add g c =
    record { adds = adds_err g.W.Write.contents c.args.writer.now c.add.new.self c.from_residual.result _ c.from_residual.ensures.0 (stops_short g.W.Write.contents c.args.writer.now c.add.new.self _ _ _ refl c.in_err-add.ensures.adds) }

none : (payload : List ℕ) → length payload ≡ 0 → 45 ∷ 10 ∷ [] ≡ payload_text payload ++ 10 ∷ []
none [] empty = refl
none (b ∷ bytes) empty = absurd (omega (arith, empty))

pub returns : goal.returns
returns g c =
    let empty : length (c.args.head.now ++ c.args.rest.now) ≡ 0 = grind (arith, nat_tests, length-append c.args.head.now c.args.rest.now) in
    let are = ap (λ l. c.args.begins.now ++ l) (none (c.args.head.now ++ c.args.rest.now) empty) in
    record { adds = line_added g.W.Write.contents c.args.writer.now c.add.new.self c.add-2.new.self c.add-2.result _ _ _ are c.in_ok-add.ensures.adds c.add-2.ensures.adds }
