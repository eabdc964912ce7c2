use Rattle.std.proofs.Common.{◌≡◌, ◌+◌, ◌-◌, ◌&&◌, ◌||◌, true, false, eqb, not, length, take, drop, refl, ap, subst, ◌∙◌, length-set, arith}
use Rattle.std.proofs.Math.ListN.{get_or, set}
use Rattle.std.specs.Int.{from_bool}
use Rattle.std.proofs.lemmas.Bool.{eq-eqb, ne_eqb}
use Rattle.std.proofs.lemmas.List.{drop_more, take_rest}
use Rattle.tftp_netascii.specs.{file_at, ReadsAfterReturn}
use Rattle.tftp_netascii.proofs.OneByOne.{step, Written, ended_by_return}
use Rattle.tftp_netascii.proofs.in_place.read_bytes.Goals as goal
use Rattle.tftp_netascii.proofs.in_place.read_bytes.Goals.{then-before-eq-CR, else-before-eq-CR, then-before-ne-CR, else-before-ne-CR}

pub loop-index-preserved : goal.loop-index-preserved
loop-index-preserved c =
    let bytes = c.loop-index.bytes in
    let index = c.loop-index.index in
    let before = c.loop-index.before in
    let x = get_or bytes index 0 in
    let ends : c.if-before-eq-CR.from ≡ (eqb before 13 && eqb x 10) = elim c.if-before-eq-CR.branch [
      | then-before-eq-CR w ↦ let at : eqb before 13 ≡ true = eq-eqb before 13 w.if-before-eq-CR.true in rw at w.from-is
      | else-before-eq-CR w ↦ let at : eqb before 13 ≡ false = ne_eqb before 13 w.if-before-eq-CR.false in w.from-is ∙ rw at refl
    ] in
    let stays : c.if-before-ne-CR.from ≡ (not (eqb before 13) || not (eqb x 0)) = elim c.if-before-ne-CR.branch [
      | then-before-ne-CR w ↦ let at : eqb before 13 ≡ false = ne_eqb before 13 w.if-before-ne-CR.true in w.from-is ∙ rw at refl
      | else-before-ne-CR w ↦ let at : eqb before 13 ≡ true = eq-eqb before 13 w.if-before-ne-CR.false in rw at w.from-is
    ] in
    let next = step bytes (file_at c.args.bytes.now c.args.read c.args.written) index c.loop-index.written before x c.from.result c.from-in-loop-index.result
    c.loop-index.invariant.behind (omega arith) (drop_more bytes index 0 (omega arith)) c.loop-index.invariant.written
    (c.from.ensures ∙ ap from_bool ends) (c.from-in-loop-index.ensures ∙ ap from_bool stays) in
    record { behind = next.0; written = next.1 }

pub returns-clause-file : goal.returns-clause-file
returns-clause-file c =
    let bytes = c.loop-index.bytes in
    let index = c.loop-index.index in
    let written = c.loop-index.written in
    let byte = c.after_return-byte.result.0 in
    let after = c.after_return-byte.result.1.now in
    let file = file_at c.args.bytes.now c.args.read c.args.written in
    let at : c.args.read + c.min.result ≡ index = omega arith in
    let stands : ReadsAfterReturn (drop index bytes) byte after =
    subst (λ n. ReadsAfterReturn (drop n bytes) byte after) at (rw take_rest at c.after_return-byte.ensures) in
    let so_far = subst (λ b. Written b (take written bytes) (drop index bytes) file) c.if-before-ne-CR-2.false c.loop-index.invariant.written in
    ap (λ n. file_at (set bytes (written - 1) byte) (n - length after) written) (length-set bytes (written - 1) byte)
    ∙ (ended_by_return bytes file after index written byte c.loop-index.invariant.behind (omega arith) stands so_far).1
