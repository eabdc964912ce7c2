use Rattle.std.proofs.Common.{rules, map, inl, inr, sym, ap, ◌∙◌, ◌≡◌, drop, subst, Err}
use Rattle.std.proofs.lemmas.List.{length-map}
use Rattle.tftp_words.specs.{part}
use Rattle.tftp_words.proofs.Reading.{Read, texts_left, read_end, read_rest, read_part, read_nothing, read_twice, memory_else}
use Rattle.tftp_words.proofs.Saying.{part_fits}
use Rattle.tftp_words.proofs.given.given_of.Goals as goal

pub returns-then-eq-clause-ok : goal.returns-then-eq-clause-ok
returns-then-eq-clause-ok g c =
    let after : map g.S.AsStr.text c.split_at.result.1.now ≡ drop 1 (map g.S.AsStr.text c.loop-word.rest.now) = texts_left g.S.AsStr.text 1 c.loop-word.rest.now c.split_at.result.1.now c.split_at.ensures.back in
    (read_rest _ _ c.loop-word.given c.add_plain.new.self c.in-Some.word.now c.loop-word.invariant (sym c.in-Some.ensures) (search rules)
    (λ ps h. rw (← after) (c.in_ok-add_plain.ensures ps h))).0

pub returns-then-eq-clause-only : goal.returns-then-eq-clause-only
returns-then-eq-clause-only g c = λ ps say once.
    let after : map g.S.AsStr.text c.split_at.result.1.now ≡ drop 1 (map g.S.AsStr.text c.loop-word.rest.now) = texts_left g.S.AsStr.text 1 c.loop-word.rest.now c.split_at.result.1.now c.split_at.ensures.back in
    inl ((read_rest _ _ c.loop-word.given c.add_plain.new.self c.in-Some.word.now c.loop-word.invariant (sym c.in-Some.ensures) (search rules)
    (λ qs h. rw (← after) (c.in_ok-add_plain.ensures qs h))).1 ps say)

pub returns-in_default-first_part-clause-only : goal.returns-in_default-first_part-clause-only
returns-in_default-first_part-clause-only g c = λ ps say once.
    inl (read_nothing _ _ c.loop-word.given c.in-Some.word.now _ c.loop-word.invariant (sym c.in-Some.ensures) (sym c.word_at-in-Some.ensures) (search rules) c.in_default-first_part.ensures ps say)

pub returns-in_err-add-clause-only : goal.returns-in_err-add-clause-only
returns-in_err-add-clause-only g c = λ ps say once.
    let memory = memory_else c.in_err-add.field-0.0 (λ e.
    read_twice _ _ c.loop-word.given c.in-Some.word.now _ (part c.in-Some-first_part.part) c.in-Some-first_part.count c.loop-word.invariant (sym c.in-Some.ensures) (sym c.word_at-in-Some.ensures) (search rules) c.in-Some-first_part.ensures
    (λ qs rs h. c.in_err-add.ensures.once qs rs h (ap Err e)) ps say once) (λ e. c.in_err-add.ensures.known (ap Err e)) (λ e. c.in_err-add.ensures.alone (ap Err e)) in
    let same : c.from_residual-in_err-add.result ≡ Err c.in_err-add.field-0.0 = search rules in
    inr (same ∙ ap Err memory)

pub split_at-requires-in-Some : goal.split_at-requires-in-Some
split_at-requires-in-Some g c =
    rw (← length-map c.loop-word.rest.now g.S.AsStr.text) (part_fits _ c.in-Some.word.now _ (part c.in-Some-first_part.part) c.in-Some-first_part.count c.in-Some-first_part.ensures (sym c.in-Some.ensures) (sym c.word_at-in-Some.ensures))

pub loop-word-preserved : goal.loop-word-preserved
loop-word-preserved g c =
    let after : map g.S.AsStr.text c.split_at-in-Some.result.1.now ≡ drop c.in-Some-first_part.count (map g.S.AsStr.text c.loop-word.rest.now) =
    texts_left g.S.AsStr.text c.in-Some-first_part.count c.loop-word.rest.now c.split_at-in-Some.result.1.now c.split_at-in-Some.ensures.back in
    subst (λ left. Read (map g.S.AsStr.text c.args.words.now) left c.add.new.self) (sym after)
    (read_part _ _ c.loop-word.given c.add.new.self c.in-Some.word.now _ (part c.in-Some-first_part.part) c.in-Some-first_part.count c.loop-word.invariant (sym c.in-Some.ensures) (sym c.word_at-in-Some.ensures) (search rules)
    c.in-Some-first_part.ensures c.in_ok-add.ensures.ok)

pub returns-clause-ok : goal.returns-clause-ok
returns-clause-ok g c = (read_end _ _ c.loop-word.given c.loop-word.invariant (sym c.in_default.ensures)).0

pub returns-clause-only : goal.returns-clause-only
returns-clause-only g c = λ ps say once. inl ((read_end _ _ c.loop-word.given c.loop-word.invariant (sym c.in_default.ensures)).1 ps say)
