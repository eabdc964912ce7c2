use Rattle.std.proofs.Common.{map, inl, inr, sym, ◌∙◌, ◌≡◌, drop, subst}
use Rattle.std.proofs.lemmas.List.{length-map}
use Rattle.std.proofs.lemmas.Result.{IfOk-weaker}
use Rattle.tftp_words.specs.{Say}
use Rattle.tftp_words.proofs.Reading.{texts_left}
use Rattle.tftp_words.proofs.Asking.{first_word, match_arguments}
use Rattle.tftp_words.proofs.match_request.match_requested.Goals as goal

pub returns-clause-ok : goal.returns-clause-ok
returns-clause-ok g c =
    let after : map g.S.AsStr.text c.split_at.result.1.now ≡ drop 1 (map g.S.AsStr.text c.args.words.now) = texts_left g.S.AsStr.text 1 c.args.words.now c.split_at.result.1.now c.split_at.ensures.back in
    let first = first_word (map g.S.AsStr.text c.args.words.now) (rw (length-map c.args.words.now g.S.AsStr.text) (sym c.is_empty.ensures ∙ c.if-is_empty.false)) in
    let said = c.in_ok-given.ensures.ok in
    IfOk-weaker c.match_by.result _ _
    (λ r made. (first.0, drop 1 (map g.S.AsStr.text c.args.words.now), first.1, said.0, subst (λ l. Say l said.0) after said.1, made))
    (c.match_by.ensures.ok said.0 said.2)

pub returns-clause-only : goal.returns-clause-only
returns-clause-only g c = λ a request.
    let after : map g.S.AsStr.text c.split_at.result.1.now ≡ drop 1 (map g.S.AsStr.text c.args.words.now) = texts_left g.S.AsStr.text 1 c.args.words.now c.split_at.result.1.now c.split_at.ensures.back in
    let known = match_arguments a (map g.S.AsStr.text c.args.words.now) request in
    let holds = c.in_ok-given.ensures.only known.0 (subst (λ l. Say l known.0) (sym after) known.1) known.2 in
    elim holds [
      | inl h ↦ inl (c.match_by.ensures.only known.0 a h known.3)
      | inr e ↦ cc
    ]
