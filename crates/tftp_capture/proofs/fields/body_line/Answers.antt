use Rattle.std.proofs.Common.{◌≡◌, ◌∷◌, codes, ap, ◌∙◌, subst, Err, rules}
use Rattle.tftp_capture.specs.{pieces, BodyEnds, filled_if}
use Rattle.tftp_capture.proofs.Pieces.{total_stop}
use Rattle.tftp_capture.proofs.fields.body_line.Goals as goal

pub returns-in-Some-dir_of : goal.returns-in-Some-dir_of
returns-in-Some-dir_of c = c.in_ok-fill_datagram.ensures c.args.line.now c.args.count (c.in-Some.ensures ∙ ap (λ w. w ∷ pieces c.in-Some.fields.now) c.in-Some-dir_of.ensures)

pub returns-in_err-total : goal.returns-in_err-total
returns-in_err-total c =
    let word : c.in-Some.word.now ≡ codes "total" = search rules in
    let ends = c.in_err-total.ensures c.args.version c.args.line.now (c.in-Some.ensures ∙ ap (λ w. w ∷ pieces c.in-Some.fields.now) word) in
    let same : Err c.in_err-total.field-0.0 ≡ c.from_residual-in_err-total.result = search rules in
    subst (λ r. BodyEnds c.args.version (filled_if r c.args.datagram.now) c.args.line.now c.args.count) same (total_stop c.args.version c.args.count c.args.line.now c.in_err-total.field-0.0 ends)

pub returns : goal.returns
returns c =
    let word : c.in-Some.word.now ≡ codes "total" = search rules in
    c.in_ok-total.ensures c.args.version c.args.line.now (c.in-Some.ensures ∙ ap (λ w. w ∷ pieces c.in-Some.fields.now) word)
