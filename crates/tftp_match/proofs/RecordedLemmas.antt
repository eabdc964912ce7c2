-- The requests of a recording's transfers, by their numbers, and a text that is written into memory.
use Rattle.std.proofs.Common.{arith, ◌≡◌, ◌≢◌, ◌==◌, ◌+◌, ◌-◌, ◌++◌, ◌∷◌, ◌<◌, ◌≤◌, ◌⊎◌, get_or, inl, inr, ℕ, true, false, List, [], append-nil, length, Option, Some, None, IsSome, Result, Ok, Err, refl, sym, ap, subst, ◌∙◌, if◌then◌else◌}
use Rattle.std.proofs.lemmas.Bool.{eqb-false, eqb-true}
use Rattle.std.proofs.lemmas.Option.{slice_get_cases, slice_get_within}
use Rattle.std.specs.List.{slice_get}
use Rattle.net_streams.specs.Streams.{Ends, Sink, Wrote}
use Rattle.audit_flows.proofs.LinesLemmas.Lines.{by_test}
use Rattle.audit_recording.specs.Blame.Frames.{Carried, datagrams_of, whole_of}
use Rattle.audit_recording.specs.Judges.{opened}
use Rattle.audit_recording.specs.Session.Requests.{AreAsked, IsAskedAs}
use Rattle.audit_recording.specs.Session.Texts.{IsNoneNumbered, opened_count, opened_numbers, ordinal}
use Rattle.audit_recording.specs.declared.session.fault.TextFault.TheVariants.{NoTransfer}
use Rattle.audit_recording.specs.declared.session.requests.Asked.{Asked}
use Rattle.audit_recording.proofs.SessionLemmas.Ordered.{count_is, opened_at, ordinal_at}

module _ (named : List ℕ) (carried : List Carried) (asked : List Asked) (are : AreAsked named carried asked) (number : ℕ) where
  -- the one with this number
  pub one_asked : (one : Asked) → (if number == 0 then None else slice_get asked (number - 1)) ≡ Some one → IsAskedAs named carried number one
  one_asked one is = by_test (number == 0)
      (λ none. let both : None ≡ Some one = sym (ap (λ b. if b then None else slice_get asked (number - 1)) none) ∙ is in absurd (cc))
      (λ some.
      let more : number ≢ 0 = eqb-false number 0 some in
      let there : slice_get asked (number - 1) ≡ Some one = sym (ap (λ b. if b then None else slice_get asked (number - 1)) some) ∙ is in
      let again : (number - 1) + 1 ≡ number = omega (arith, more) in
      subst (λ n. IsAskedAs named carried n one) again (are.each (number - 1) one there))

  below : (k key : ℕ) → slice_get (opened_numbers (whole_of named carried)) k ≡ Some key → k < length asked
  below k key there =
      let under : k < length (opened_numbers (whole_of named carried)) = slice_get_within (opened_numbers (whole_of named carried)) k key there in
      subst (λ n. k < n) (sym (are.all ∙ count_is (whole_of named carried))) under

  -- there is none
  pub none_asked : (count : ℕ) → count ≡ length asked → (if number == 0 then None else slice_get asked (number - 1)) ≡ None → IsNoneNumbered number (whole_of named carried) (NoTransfer number count)
  none_asked count many none = (
    refl,
    many ∙ are.all,
    λ key some place.
        let there = opened_at named (datagrams_of carried) key some in
        let is : ordinal key (whole_of named carried) ≡ there.0 + 1 = ordinal_at named (datagrams_of carried) there.0 key there.1 in
        let here : number ≡ there.0 + 1 = sym place ∙ is in
        let within : there.0 < length asked = below there.0 key there.1 in
        absent there.0 here within none,
  ) where
    absent : (k : ℕ) → number ≡ k + 1 → k < length asked → (if number == 0 then None else slice_get asked (number - 1)) ≡ None → ⊥
    absent k here within none = by (slice_get_cases asked k).1 where
      off : (number == 0) ≡ false
      off = by_test (number == 0) (λ is. let zero : number ≡ 0 = eqb-true number 0 is in absurd (omega (arith, zero, here))) (λ off. off)

      gone : slice_get asked k ≡ None
      gone =
          let before : number - 1 ≡ k = omega (arith, here) in
          subst (λ j. slice_get asked j ≡ None) before (sym (ap (λ b. if b then None else slice_get asked (number - 1)) off) ∙ none)

      by : ((x : Asked) × (k < length asked) × (slice_get asked k ≡ Some x) × (get_or asked k x ≡ x)) ⊎ ((length asked ≤ k) × (slice_get asked k ≡ None)) → ⊥
      by (inl there) = let both : None ≡ Some there.0 = sym gone ∙ there.2 in absurd (cc)
      by (inr past) = let above : length asked ≤ k = past.0 in omega (arith, above, within)

-- ---- a text in memory

nothing_left : (xs ys : List ℕ) → xs ++ ys ≡ [] → ys ≡ []
nothing_left [] ys e = e
nothing_left (x ∷ xs) ys e = absurd (cc)

-- what was written into memory that held nothing, once all of it is written
pub written_items : {V E : Type 0} (items : V → List ℕ) (empty : V) (old new : Sink V) (v : V) (r : Result (Unit {0}) E) (text : List ℕ) → old ≡ record { inner = empty; waits = []; failed = false } → items empty ≡ []
    → Wrote (λ w. Some (items w)) old new text → Ends (λ w. Some (items w)) new v r → items v ≡ text
written_items {V} items empty old new v (Ok u) text begun none wrote ends =
    ends.1 ∙ ap (λ w. items new.inner ++ w) wrote.2 ∙ append-nil (items new.inner) ∙ wrote.3 ∙ ap (λ (k : Sink V). items k.inner ++ (k.waits ++ text)) begun ∙ ap (λ l. l ++ text) none
written_items {V} items empty old new v (Err e) text begun none wrote ends =
    let part = ends.1 wrote.1 in
    absurd (part.left (nothing_left part.written part.rest (sym part.are ∙ wrote.2)))
