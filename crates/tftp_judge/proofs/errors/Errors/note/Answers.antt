use Rattle.law_end.specs.{AbortedBy, by_of as by_way, GoesOn}
use Rattle.std.proofs.Common.{◌≡◌, ℕ, true, false, true≢false, Option, None, Some, sym, subst, ap, ◌∙◌, is_some}
use Rattle.tftp_packet.specs.{Message}
use Rattle.tftp_judge.specs.{Errors}
use Rattle.tftp_judge.proofs.ErrorsNoted.{noted_in, noted_out}
use Rattle.tftp_judge.proofs.errors.Errors.note.Goals as goal
use Rattle.tftp_judge.proofs.errors.Errors.note.Goals.{in-Out+in_ok-keep_first-in-Out, in-In+in_ok-keep_first-in-In}

not_some : (first : Option (AbortedBy × ℕ)) (y : AbortedBy × ℕ) → first ≡ Some y → is_some first ≡ false → ⊥
not_some first y is none = true≢false (sym (ap is_some is) ∙ none)

not_none : (first : Option (AbortedBy × ℕ)) → first ≡ None → is_some first ≡ true → ⊥
not_none first is some = true≢false (sym some ∙ ap is_some is)

-- src/errors.rt:134:5
pub returns-then-is_none-clause-ok : goal.returns-then-is_none-clause-ok
returns-then-is_none-clause-ok c = λ passed d are says ended. elim c.match-dir.branch [
  | in-Out+in_ok-keep_first-in-Out w ↦ noted_out c.args.self.now _ passed d c.args.code c.args.message.now are (says.0 ∙ w.in-Out.is, says.1)
      (subst (λ way. GoesOn passed way (Message.Error c.args.code c.args.message.now) → ⊥) w.in-Out.is ended)
      (rw (w.self-inside-is, sym c.self.view_is) (w.in_ok-keep_first-in-Out.ensures.first, w.in_ok-keep_first-in-Out.ensures.later)) (search)
      ((λ none. ap (λ by. Some (by, c.args.code)) (c.by_of.ensures ∙ ap by_way w.in-Out.is)), (λ y some. absurd (not_some c.match-dir.self-inside.first y (rw (w.self-inside-is) (ap (λ (e : Errors). e.first) c.self.view_is ∙ some)) c.if-is_none.ensures)))
  | in-In+in_ok-keep_first-in-In w ↦ noted_in c.args.self.now _ passed d c.args.code c.args.message.now are (says.0 ∙ w.in-In.is, says.1)
      (subst (λ way. GoesOn passed way (Message.Error c.args.code c.args.message.now) → ⊥) w.in-In.is ended) (search)
      (rw (w.self-inside-is, sym c.self.view_is) (w.in_ok-keep_first-in-In.ensures.first, w.in_ok-keep_first-in-In.ensures.later))
      ((λ none. ap (λ by. Some (by, c.args.code)) (c.by_of.ensures ∙ ap by_way w.in-In.is)), (λ y some. absurd (not_some c.match-dir.self-inside.first y (rw (w.self-inside-is) (ap (λ (e : Errors). e.first) c.self.view_is ∙ some)) c.if-is_none.ensures)))
]

-- src/errors.rt:134:5
pub returns-else-is_none-clause-ok : goal.returns-else-is_none-clause-ok
returns-else-is_none-clause-ok c = λ passed d are says ended. elim c.match-dir.branch [
  | in-Out+in_ok-keep_first-in-Out w ↦ noted_out c.args.self.now _ passed d c.args.code c.args.message.now are (says.0 ∙ w.in-Out.is, says.1)
      (subst (λ way. GoesOn passed way (Message.Error c.args.code c.args.message.now) → ⊥) w.in-Out.is ended)
      (rw (w.self-inside-is, sym c.self.view_is) (w.in_ok-keep_first-in-Out.ensures.first, w.in_ok-keep_first-in-Out.ensures.later)) (search)
      ((λ none. absurd (not_none c.match-dir.self-inside.first (rw (w.self-inside-is) (ap (λ (e : Errors). e.first) c.self.view_is ∙ none)) c.if-is_none.ensures)), (λ y some. rw (w.self-inside-is) (ap (λ (e : Errors). e.first) c.self.view_is ∙ some)))
  | in-In+in_ok-keep_first-in-In w ↦ noted_in c.args.self.now _ passed d c.args.code c.args.message.now are (says.0 ∙ w.in-In.is, says.1)
      (subst (λ way. GoesOn passed way (Message.Error c.args.code c.args.message.now) → ⊥) w.in-In.is ended) (search)
      (rw (w.self-inside-is, sym c.self.view_is) (w.in_ok-keep_first-in-In.ensures.first, w.in_ok-keep_first-in-In.ensures.later))
      ((λ none. absurd (not_none c.match-dir.self-inside.first (rw (w.self-inside-is) (ap (λ (e : Errors). e.first) c.self.view_is ∙ none)) c.if-is_none.ensures)), (λ y some. rw (w.self-inside-is) (ap (λ (e : Errors). e.first) c.self.view_is ∙ some)))
]
