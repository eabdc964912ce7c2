use Rattle.std.proofs.Common.{◌%◌, refl, sym, ap, ◌∙◌}
use Rattle.std.proofs.lemmas.Bool.{false≢true}
use Rattle.tftp_packet.proofs.OptionCases.{odd, whole, unnamed, repeated, options}
use Rattle.tftp_packet.proofs.options.OptionsView.read.Goals as goal

pub returns-then-strings-eq1-clause-err : goal.returns-then-strings-eq1-clause-err
returns-then-strings-eq1-clause-err c = odd c.args.bytes.now c.if-not-is_ended.ensures (ap (λ n. n % 2) (sym c.string_count-strings.ensures) ∙ c.if-strings-eq1.true)

pub returns-then-has_empty_name-clause-err : goal.returns-then-has_empty_name-clause-err
returns-then-has_empty_name-clause-err c =
    unnamed c.args.bytes.now c.if-not-is_ended.ensures (λ is. c.if-strings-eq1.false (ap (λ n. n % 2) c.string_count-strings.ensures ∙ is)) (c.if-has_empty_name.ensures.0 refl)

pub returns-then-has_repeat-clause-err : goal.returns-then-has_repeat-clause-err
returns-then-has_repeat-clause-err c =
    repeated c.args.bytes.now c.if-not-is_ended.ensures (λ is. c.if-strings-eq1.false (ap (λ n. n % 2) c.string_count-strings.ensures ∙ is)) (λ empty. false≢true (c.if-has_empty_name.ensures.1 empty)) (c.if-has_repeat.ensures.0 refl)

pub invariant_of-result : goal.invariant_of-result
invariant_of-result c = (
  (whole c.args.bytes.now c.if-not-is_ended.ensures (λ is. c.if-strings-eq1.false (ap (λ n. n % 2) c.string_count-strings.ensures ∙ is))).0,
  options c.args.bytes.now c.if-not-is_ended.ensures (λ is. c.if-strings-eq1.false (ap (λ n. n % 2) c.string_count-strings.ensures ∙ is)) (λ empty. false≢true (c.if-has_empty_name.ensures.1 empty)) (λ repeat. false≢true (c.if-has_repeat.ensures.1 repeat)),
)

pub returns-clause-ok : goal.returns-clause-ok
returns-clause-ok c = (
  (whole c.args.bytes.now c.if-not-is_ended.ensures (λ is. c.if-strings-eq1.false (ap (λ n. n % 2) c.string_count-strings.ensures ∙ is))).0,
  options c.args.bytes.now c.if-not-is_ended.ensures (λ is. c.if-strings-eq1.false (ap (λ n. n % 2) c.string_count-strings.ensures ∙ is)) (λ empty. false≢true (c.if-has_empty_name.ensures.1 empty)) (λ repeat. false≢true (c.if-has_repeat.ensures.1 repeat)),
)
