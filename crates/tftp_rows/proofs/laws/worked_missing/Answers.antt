use Rattle.std.proofs.Common.{◌≡◌, ◌+◌, ◌∷◌, ◌||◌, nat_le, ℕ, [], List, true, Option, None, Some, arith, inl, inr, refl, sym, subst, ◌∙◌}
use Rattle.std.proofs.lemmas.Bool.{false≢true}
use Rattle.audit_flows.specs.{Address}
use Rattle.audit_flows.specs.Lines.{silence}
use Rattle.audit_recording.specs.Losses.Noted.{Event, IsFirst, IsMissingOf, Unread, is_soon, unread}
use Rattle.audit_recording.specs.Losses.Noted.Event.{Loses}
use Rattle.audit_recording.specs.Session.Noted.{stretch_of}
use Rattle.tftp_rows.proofs.laws.worked_missing.Goals as goal

-- nothing else is missing than what is lost
only_one : (host : Address) (g : Unread) (events : List Event) → events ≡ Loses g ∷ [] → (n time : ℕ) → IsMissingOf host events n time → (g.frame ≡ n) × (g.time ≡ time)
only_one host g events are n time is = by (subst (λ l. IsMissingOf host l n time) are is) where
  by : IsMissingOf host (Loses g ∷ []) n time → (g.frame ≡ n) × (g.time ≡ time)
  by (f, inl (inl same), of, frame, at) = let this : g ≡ f = cc in subst (λ (h : Unread). (h.frame ≡ n) × (h.time ≡ time)) (sym this) (frame, at)
  by (f, inl (inr none), of, frame, at) = absurd none
  by (f, inr waits, of, frame, at) = let no : None ≡ Some f = waits in absurd (cc)

lost_one : (host : Address) (frame time : ℕ) (events : List Event) → events ≡ Loses (unread frame time) ∷ [] → IsMissingOf host events frame time
lost_one host frame time events are = subst (λ l. IsMissingOf host l frame time) (sym are) (unread frame time, inl (inl refl), refl, refl, refl)

first_is : (Such : ℕ → ℕ → Type 0) (o : Option ℕ) (n time : ℕ) → IsFirst Such o → Such n time → ((m any : ℕ) → Such m any → n ≡ m) → o ≡ Some n
first_is Such None n time none such only = absurd (none n time such)
first_is Such (Some m) n time first such only = let same : n ≡ m = only m first.0.0 first.0.1 in subst (λ k. Some m ≡ Some k) (sym same) refl

none_is : (o : Option ℕ) → ((n : ℕ) → o ≡ Some n → ⊥) → o ≡ None
none_is None never = refl
none_is (Some n) never = absurd (never n refl)

none_of : (host : Address) (n time : ℕ) → IsMissingOf host [] n time → ⊥
none_of host n time (f, inl lost, of, frame, at) = lost
none_of host n time (f, inr waits, of, frame, at) = let no : None ≡ Some f = waits in cc

pub returns-clause-among : goal.returns-clause-among
returns-clause-among c m t s first last time events are =
    let host = t.transfer.client.address in
    let lost = lost_one host 5 9000000000 s.events events in
    let only = only_one host (unread 5 9000000000) s.events events in (
      first_is (IsMissingOf host s.events) m.first 5 9000000000 are.first lost (λ n any such. (only n any such).0),
      are.within.first 5 9000000000 (lost, omega (arith, first)) (λ n any such. let same = (only n any such.0).0 in omega (arith, same))
          (λ any such. subst (λ k. (nat_le 5 k || nat_le any (t.last_time + silence)) ≡ true) (sym last) refl),
    )

pub returns-clause-later : goal.returns-clause-later
returns-clause-later c m t s first last time events are =
    let host = t.transfer.client.address in
    let lost = lost_one host 9 311000000000 s.events events in
    let only = only_one host (unread 9 311000000000) s.events events in (
      first_is (IsMissingOf host s.events) m.first 9 311000000000 are.first lost (λ n any such. (only n any such).0),
      none_is m.within (λ n told.
          let told_one = are.within.sound n told in
          let same = only n told_one.0 told_one.1.0 in
          let here : is_soon (stretch_of t) 9 told_one.0 ≡ true = subst (λ k. is_soon (stretch_of t) k told_one.0 ≡ true) (sym same.0) told_one.2 in
          let then : is_soon (stretch_of t) 9 311000000000 ≡ true = subst (λ k. is_soon (stretch_of t) 9 k ≡ true) (sym same.1) here in
          let by_last : (nat_le 9 6 || nat_le 311000000000 (t.last_time + silence)) ≡ true = subst (λ k. (nat_le 9 k || nat_le 311000000000 (t.last_time + silence)) ≡ true) last then in
          false≢true (subst (λ k. (nat_le 9 6 || nat_le 311000000000 (k + silence)) ≡ true) time by_last)),
    )

pub returns-clause-left_out : goal.returns-clause-left_out
returns-clause-left_out c t last none lacking =
    let soon : is_soon (stretch_of t.judged.trail) 5 9000000000 ≡ true = subst (λ k. (nat_le 5 k || nat_le 9000000000 (t.judged.trail.last_time + silence)) ≡ true) (sym last) refl in
    let told = lacking.0 5 9000000000 (unread 5 9000000000, inl (inl refl), refl, refl, refl) soon in
    let both : None ≡ Some told.0 = sym none ∙ told.1 in cc

pub returns-clause-nothing : goal.returns-clause-nothing
returns-clause-nothing c t = (λ n time missing soon. absurd (none_of t.transfer.client.address n time missing), tt)
