use Rattle.std.proofs.Common.{rules, map, inl, inr, sym, ◌≡◌, drop, subst, IsTrue, true, false}
use Rattle.std.proofs.lemmas.List.{length-map}
use Rattle.std.proofs.lemmas.Result.{IfOk-weaker}
use Rattle.tftp_words.specs.{Say, asked}
use Rattle.tftp_words.proofs.Reading.{texts_left}
use Rattle.tftp_words.proofs.Asking.{asks, the_arguments, told, command_in, count_fits}
use Rattle.tftp_words.proofs.request.requested.Goals as goal

pub returns-in_default-command_of-clause-only : goal.returns-in_default-command_of-clause-only
returns-in_default-command_of-clause-only g c = λ a request.
    let found = told a c.in-Some.word.now _ request (sym c.in-Some.ensures) in
    inl (c.in_default-command_of.ensures (command_in a) found.0 found.1)

pub split_at-requires : goal.split_at-requires
split_at-requires g c = rw (← length-map c.args.words.now g.S.AsStr.text) (count_fits c.in-Some.word.now _ _ _ (sym c.in-Some.ensures) c.in-Some-command_of.ensures)

pub returns-clause-ok : goal.returns-clause-ok
returns-clause-ok g c =
    let after : map g.S.AsStr.text c.split_at.result.1.now ≡ drop c.in-Some-command_of.count (map g.S.AsStr.text c.args.words.now) = texts_left g.S.AsStr.text c.in-Some-command_of.count c.args.words.now c.split_at.result.1.now c.split_at.ensures.back in
    let said = c.in_ok-given.ensures.ok in
    IfOk-weaker c.request_by.result _ _
    (λ r made. asks (asked r) c.in-Some.word.now (map g.S.AsStr.text c.args.words.now) c.in-Some-command_of.command c.in-Some-command_of.count (sym c.in-Some.ensures) c.in-Some-command_of.ensures made.0
    (said.0, subst (λ l. Say l said.0) after said.1, ((c.chooses_nothing.ensures said.0 said.2).0 (search rules), made.1)))
    (c.request_by.ensures.ok said.0 said.2)

pub returns-clause-only : goal.returns-clause-only
returns-clause-only g c = λ a request.
    let after : map g.S.AsStr.text c.split_at.result.1.now ≡ drop c.in-Some-command_of.count (map g.S.AsStr.text c.args.words.now) = texts_left g.S.AsStr.text c.in-Some-command_of.count c.args.words.now c.split_at.result.1.now c.split_at.ensures.back in
    let known = the_arguments a c.in-Some.word.now (map g.S.AsStr.text c.args.words.now) c.in-Some-command_of.command c.in-Some-command_of.count request (sym c.in-Some.ensures) c.in-Some-command_of.ensures in
    let holds = c.in_ok-given.ensures.only known.1 (subst (λ l. Say l known.1) (sym after) known.2) known.3 in
    elim holds [
      | inl h ↦ inl (c.request_by.ensures.only known.1 a h known.0 known.4.1)
      | inr e ↦ cc
    ]

pub returns-in_err-given-clause-only : goal.returns-in_err-given-clause-only
returns-in_err-given-clause-only g c = λ a request.
    let after : map g.S.AsStr.text c.split_at.result.1.now ≡ drop c.in-Some-command_of.count (map g.S.AsStr.text c.args.words.now) = texts_left g.S.AsStr.text c.in-Some-command_of.count c.args.words.now c.split_at.result.1.now c.split_at.ensures.back in
    let known = the_arguments a c.in-Some.word.now (map g.S.AsStr.text c.args.words.now) c.in-Some-command_of.command c.in-Some-command_of.count request (sym c.in-Some.ensures) c.in-Some-command_of.ensures in
    let holds = c.in_err-given.ensures.only known.1 (subst (λ l. Say l known.1) (sym after) known.2) known.3 in
    elim holds [
      | inl none ↦ absurd none
      | inr e ↦ inr (search (rules, e))
    ]

pub returns-then-not-chooses_nothing-clause-only : goal.returns-then-not-chooses_nothing-clause-only
returns-then-not-chooses_nothing-clause-only g c = λ a request.
    let after : map g.S.AsStr.text c.split_at.result.1.now ≡ drop c.in-Some-command_of.count (map g.S.AsStr.text c.args.words.now) = texts_left g.S.AsStr.text c.in-Some-command_of.count c.args.words.now c.split_at.result.1.now c.split_at.ensures.back in
    let known = the_arguments a c.in-Some.word.now (map g.S.AsStr.text c.args.words.now) c.in-Some-command_of.command c.in-Some-command_of.count request (sym c.in-Some.ensures) c.in-Some-command_of.ensures in
    let holds = c.in_ok-given.ensures.only known.1 (subst (λ l. Say l known.1) (sym after) known.2) known.3 in
    elim holds [
      | inl h ↦ (let bad : false ≡ true = subst IsTrue c.if-not-chooses_nothing.true ((c.chooses_nothing.ensures known.1 h).1 known.4.0) in cc)
      | inr e ↦ cc
    ]
