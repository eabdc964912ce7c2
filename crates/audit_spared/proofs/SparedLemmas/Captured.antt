-- A list of captures at one client, one after another.
use Rattle.std.proofs.Common.{◌≡◌, true, List, [], ◌∷◌, ◌++◌, inl, inr, refl, sym, ap, subst, ◌∙◌, if◌then◌else◌}
use Rattle.std.specs.List.{AllByRecursion, flat_map}
use Rattle.std.proofs.lemmas.Bool.{false≢true, or_cases, or_left, or_right, and_from}
use Rattle.audit_flows.specs.Lines.{Recorded, same_endpoint, is_between, other_of, goes}
use Rattle.audit_flows.specs.{Endpoint}
use Rattle.audit_flows.proofs.LinesLemmas.Endpoints.{same_itself}
use Rattle.audit_flows.proofs.LinesLemmas.Lines.{by_test}
use Rattle.audit_spared.specs.Spared.Seen.{HasNoSilence, is_with}
use Rattle.audit_spared.specs.Spared.{AreCaptures, Follows, begins, goes_on}
use Rattle.audit_spared.proofs.SparedLemmas.Basics.{all_first, all_last}

-- each passed at the client
abbrev pub AreHere : Endpoint → List Recorded → Type 0
AreHere c k = AllByRecursion (λ e. is_between c (other_of c e) e ≡ true) k

module _ (c : Endpoint) where
  here_is : (d : Recorded) → is_with c d ≡ true → is_between c (other_of c d) d ≡ true
  here_is d with = by_test (same_endpoint d.source c)
      (λ from. or_left (goes c (other_of c d) d) (goes (other_of c d) c d) (and_from (same_endpoint d.source c) (same_endpoint d.target (other_of c d)) from
      (subst (λ o. same_endpoint d.target o ≡ true) (sym (ap (λ b. if b then d.target else d.source) from)) (same_itself d.target))))
      (λ off. or_right (goes c (other_of c d) d) (goes (other_of c d) c d) (and_from (same_endpoint d.source (other_of c d)) (same_endpoint d.target c)
      (subst (λ o. same_endpoint d.source o ≡ true) (sym (ap (λ b. if b then d.target else d.source) off)) (same_itself d.source))
      (elim (or_cases (same_endpoint d.source c) (same_endpoint d.target c) with) [ inl is ↦ absurd (false≢true (sym off ∙ is)) | inr is ↦ is ])))

  pub here_all : (k : List Recorded) → AllByRecursion (λ d. is_with c d ≡ true) k → AreHere c k
  here_all [] all = tt
  here_all (d ∷ k) all = (here_is d all.0, here_all k all.1)

  module _ (lawful : List Recorded → Type 0) (before : (d e : Recorded) (k : List Recorded) → lawful (d ∷ e ∷ k) → lawful (e ∷ k))
      (follows : (d : Recorded) (k : List Recorded) → lawful (d ∷ k) → AreHere c (d ∷ k) → Follows c k d) where
    one_capture : (d : Recorded) (k ds k0 : List Recorded) → AreCaptures lawful c ds k0 → lawful (d ∷ k) → AreHere c (d ∷ k) → HasNoSilence (d ∷ k)
        → AreCaptures lawful c ((d ∷ k) ++ ds) (d ∷ k)
    one_capture d [] ds k0 older good here steady = begins k0 older (follows d [] good here) good refl
    one_capture d (e ∷ k) ds k0 older good here steady =
        goes_on e k (one_capture e k ds k0 older (before d e k good) here.1 steady.2) (follows d (e ∷ k) good here) steady.1 good refl

    -- ---- one after another

    all_captures : (each : List (List Recorded)) → AllByRecursion (λ k. lawful k × HasNoSilence k) each → AllByRecursion (λ d. is_with c d ≡ true) (flat_map (λ k. k) each)
        → (k : List Recorded) × AreCaptures lawful c (flat_map (λ k. k) each) k
    all_captures [] all here = ([], refl)
    all_captures ([] ∷ each) all here = all_captures each all.1 here
    all_captures ((d ∷ k) ∷ each) all here =
        let (k0, older) = all_captures each all.1 (all_last (λ e. is_with c e ≡ true) (d ∷ k) (flat_map (λ l. l) each) here) in (
          d ∷ k,
          one_capture d k (flat_map (λ l. l) each) k0 older all.0.0 (here_all (d ∷ k) (all_first (λ e. is_with c e ≡ true) (d ∷ k) (flat_map (λ l. l) each) here)) all.0.1,
        )

    pub captures_at : (listed : List Recorded) (each : List (List Recorded)) → AllByRecursion (λ d. is_with c d ≡ true) listed → listed ≡ flat_map (λ capture. capture) each
        → AllByRecursion (λ k. lawful k × HasNoSilence k) each → (k : List Recorded) × AreCaptures lawful c listed k
    captures_at listed each with same all =
        let here = subst (AllByRecursion (λ d. is_with c d ≡ true)) same with in
        let (k, captures) = all_captures each all here in
        (k, subst (λ l. AreCaptures lawful c l k) (sym same) captures)
