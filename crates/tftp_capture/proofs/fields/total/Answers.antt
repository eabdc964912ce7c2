use Rattle.std.proofs.Common.{◌≡◌, ◌∷◌, [], ℕ, List, codes, decimal, length, sym, ap, ◌∙◌, arith, ◌+◌, ◌≤◌}
use Rattle.std.proofs.lemmas.Slice.Eq.{bytes_eq-Decides}
use Rattle.tftp_capture.specs.{pieces}
use Rattle.tftp_capture.proofs.Pieces.{some_piece, bad_total, is_total, cut_some, cut_none}
use Rattle.tftp_capture.proofs.fields.total.Goals as goal

pub returns-then-is_some : goal.returns-then-is_some
returns-then-is_some c = λ version line is.
    let cut : (a b : List ℕ) × (pieces c.args.fields.now ≡ a ∷ pieces b) = cut_some (λ p. p.0.now) (λ p. p.1.now) c.args.fields.now c.cut.result c.cut.ensures (sym c.if-is_some.true ∙ c.is_some.ensures) in
    let more : 1 ≤ length (pieces cut.1) = some_piece cut.1 in
    let sizes : length (pieces c.args.fields.now) ≡ 1 + length (pieces cut.1) = ap length cut.2 ∙ omega arith in
    bad_total version c.args.count line _ is (omega (arith, more, sizes))

pub returns-then-eq : goal.returns-then-eq
returns-then-eq c = λ version line is.
    let whole : pieces c.args.fields.now ≡ c.args.fields.now ∷ [] = cut_none (λ p. p.0.now) (λ p. p.1.now) c.args.fields.now c.cut.result c.cut.ensures (sym c.if-is_some.false ∙ c.is_some.ensures) in
    let same : c.as_bytes.result.now ≡ c.args.fields.now = (bytes_eq-Decides _ _).0 (sym c.eq.ensures ∙ c.if-eq.true) in
    let number : c.args.fields.now ≡ decimal c.args.count = sym same ∙ c.as_bytes.ensures.value ∙ c.format.ensures.text in
    is_total c.args.count line (is ∙ ap (λ l. codes "total" ∷ l) (whole ∙ ap (λ l. l ∷ []) number))
