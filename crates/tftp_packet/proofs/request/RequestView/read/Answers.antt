use Rattle.std.proofs.Common.{◌≡◌, ◌≢◌, ℕ, false, List, [], ◌∷◌, ◌++◌, length, nat_eq, ap, ◌∙◌}
use Rattle.std.proofs.lemmas.Bool.{false≢true}
use Rattle.std.proofs.lemmas.Result.{err_from_is_err_and}
use Rattle.tftp_packet.specs.{strings, pair_strings, Pair, side_opcode}
use Rattle.tftp_packet.proofs.Unique.{side_opcodes}
use Rattle.tftp_packet.proofs.RequestCases.{no_string, one_string, options_fault, mode_fault, too_long}
use Rattle.tftp_packet.proofs.request.RequestView.read.Goals as goal

whole : (name mode_text rest middle body : List ℕ) → body ≡ name ++ 0 ∷ middle → middle ≡ mode_text ++ 0 ∷ rest → body ≡ name ++ 0 ∷ (mode_text ++ 0 ∷ rest)
whole name mode_text rest middle body e f = e ∙ ap (λ x. name ++ 0 ∷ x) f

not_empty : (rest : List ℕ) (pairs : List Pair) → false ≡ nat_eq (length rest) 0 → rest ≡ strings (pair_strings pairs) → pairs ≢ []
not_empty rest pairs test is none = false≢true (test ∙ ap (λ r. nat_eq (length r) 0) (is ∙ ap (λ p. strings (pair_strings p)) none))

pub returns-in_default-clause-err : goal.returns-in_default-clause-err
returns-in_default-clause-err c = no_string (side_opcode c.args.side) (side_opcodes c.args.side) c.args.body.now c.in_default.ensures

pub returns-in_default-split_string-clause-err : goal.returns-in_default-split_string-clause-err
returns-in_default-split_string-clause-err c =
    one_string (side_opcode c.args.side) (side_opcodes c.args.side) c.in-Some.name.now c.in-Some.rest.now c.args.body.now
    c.in-Some.ensures.0 c.in_default-split_string.ensures c.in-Some.ensures.1

pub returns-in_err-options-clause-err : goal.returns-in_err-options-clause-err
returns-in_err-options-clause-err c =
    let text = c.in-Some-split_string in
    let p = err_from_is_err_and c.from_residual.result c.from_residual.ensures.1 in
    rw (p.1, p.2)
    (options_fault (side_opcode c.args.side) (side_opcodes c.args.side) c.in-Some.name.now text.mode_text.now text.rest.now c.args.body.now
    c.in-Some.ensures.0 text.ensures.0 (whole c.in-Some.name.now text.mode_text.now text.rest.now c.in-Some.rest.now c.args.body.now c.in-Some.ensures.1 text.ensures.1)
    c.in_err-options.field-0.0 c.in_err-options.ensures.err)

pub returns-in_err-mode-clause-err : goal.returns-in_err-mode-clause-err
returns-in_err-mode-clause-err c =
    let text = c.in-Some-split_string in
    let held = c.in_ok-options.ensures.ok in
    let p = err_from_is_err_and c.from_residual-in_err-mode.result c.from_residual-in_err-mode.ensures.1 in
    rw (p.1, p.2)
    (mode_fault (side_opcode c.args.side) (side_opcodes c.args.side) c.in-Some.name.now text.mode_text.now text.rest.now c.args.body.now
    c.in-Some.ensures.0 text.ensures.0 (whole c.in-Some.name.now text.mode_text.now text.rest.now c.in-Some.rest.now c.args.body.now c.in-Some.ensures.1 text.ensures.1)
    c.in_ok-options.options held.0 held.1.0 held.1.1 held.1.2
    c.in_err-mode.field-0.0 c.in_err-mode.ensures)

pub returns-then-body-gt-BODY_MAX-clause-err : goal.returns-then-body-gt-BODY_MAX-clause-err
returns-then-body-gt-BODY_MAX-clause-err c =
    let text = c.in-Some-split_string in
    let held = c.in_ok-options.ensures.ok in
    too_long (side_opcode c.args.side) (side_opcodes c.args.side) c.in-Some.name.now text.mode_text.now text.rest.now c.args.body.now
    c.in-Some.ensures.0 text.ensures.0 (whole c.in-Some.name.now text.mode_text.now text.rest.now c.in-Some.rest.now c.args.body.now c.in-Some.ensures.1 text.ensures.1)
    c.in_ok-options.options held.0 held.1.0 held.1.1 held.1.2
    c.in_ok-mode.mode c.in_ok-mode.ensures (not_empty text.rest.now c.in_ok-options.options c.if-not-is_empty.ensures held.0) c.if-body-gt-BODY_MAX.true
