-- No client's view is refused without a doubt, where captures of lawful transfers are interleaved, and strays come.
use Rattle.std.proofs.Common.{◌≡◌, ◌⊎◌, ℕ, Bool, true, List, [], ◌∷◌, ◌++◌, Some, Contains, inl, inr, refl, sym, ap, subst, ◌∙◌, ◌||◌, not, map, reverse, filter}
use Rattle.std.specs.List.{AllByRecursion, flat_map}
use Rattle.std.proofs.lemmas.Bool.{false≢true, and_from, eq-eqb, or_left, or_right}
use Rattle.std.proofs.lemmas.List.{reverse-reverse}
use Rattle.law_model.specs.Rules.{first_of}
use Rattle.law_end.specs.{OneEnded, IsLawful, IsRefused, Rule}
use Rattle.law_end.proofs.FirstBroken.FirstBroken.{refused_does_not_pass}
use Rattle.law_end.proofs.Whole.TwoEnds.{lawful}
use Rattle.audit_flows.specs.Lines.{Recorded, Placed, is_of, transfer_of, comes_in, goes_on_with_first, is_late}
use Rattle.audit_flows.specs.{Address, Endpoint, Transfer}
use Rattle.audit_flows.proofs.LinesLemmas.Lines.{by_test}
use Rattle.audit_flows.specs.Transfers.{client_view, placed, is_led_astray, some_of}
use Rattle.audit_spared.specs.Spared.Seen.{HasNoSilence, as_seen_by, at_client_of, is_with}
use Rattle.audit_spared.proofs.FairLemmas.Thinned.{all_of, filter_kept}
use Rattle.audit_spared.specs.Spared.{needs_doubt, is_doubted_there, AreCaptures, IsLawfulAt}
use Rattle.audit_spared.proofs.SparedLemmas.Astray.{GoesOnSteady, came_some, steady_none, steady_one, steady_other, view_whole}
use Rattle.audit_spared.proofs.SparedLemmas.Strays.{IsStrayedAt, follows_strayed, in_time_strayed, strayed_before}
use Rattle.audit_spared.proofs.SparedLemmas.StrayedViews.{IsLed, answered_good, asking_fair, misled_led, waiting_fair}
use Rattle.audit_spared.proofs.SparedLemmas.Kept.{told_filter}
use Rattle.audit_spared.proofs.SparedLemmas.Lists.{map_reversed}
use Rattle.audit_spared.proofs.SparedLemmas.Captured.{captures_at}
use Rattle.audit_spared.proofs.SparedLemmas.Stands.{came_in}
use Rattle.audit_spared.proofs.SparedLemmas.Views.{seen}
use Rattle.audit_spared.proofs.SparedLemmas.Spared.{IsStated, of_transfer, doubted_or}
use Rattle.audit_spared.proofs.SparedLemmas.Whole.{AreAll, asked_of, kept_whole}

module _ (write : Address → List ℕ) (c : Endpoint) where
  map_reverse : (k : List Recorded) → reverse (map (as_seen_by write c) (reverse k)) ≡ map (as_seen_by write c) k
  map_reverse k = sym (map_reversed (as_seen_by write c) (reverse k)) ∙ ap (map (as_seen_by write c)) (reverse-reverse k)

  -- a capture that some run shows breaks no rule
  pub lawful_at : (k : List Recorded) → IsLawful (at_client_of 69) (map (as_seen_by write c) (reverse k)) → IsLawfulAt write c k
  lawful_at k shown = subst (OneEnded (at_client_of 69)) (map_reverse k) ((lawful (at_client_of 69) (map (as_seen_by write c) (reverse k))).0 shown)

-- ---- the recording

module _ (write : Address → List ℕ) (write_one : (a b : Address) → write a ≡ write b → a ≡ b) (strays : Recorded → Bool) where
  abbrev IsFair : Endpoint → List Placed → Type 0
  IsFair c view = OneEnded (at_client_of 69) (map (seen write c) view)

  abbrev IsGood : Endpoint → List Placed → Type 0
  IsGood c view = IsFair c view ⊎ IsLed write write_one strays c view

  stated : (c : Endpoint) → IsStated (IsStrayedAt write strays c) c (IsGood c) ⊥
  stated c = record {
    is_asked = λ k older kp rest x has may a. inl (asking_fair write write_one strays c k older kp rest x has may a);
    is_waiting = λ k older kp rest x has may a. inl (waiting_fair write write_one strays c k older kp rest x has may a);
    is_misled = λ k older kp rest x has may a. inr (misled_led write write_one strays c k older kp rest x has may a);
    is_answered = λ k older kp rest x has may. answered_good write write_one strays c k older kp rest x has may;
    is_reopened = λ k older kp rest x has may a. absurd (a.untimely (in_time_strayed write write_one strays c k may));
    is_taken = λ k older kp rest x has may a. absurd (a.untimely (in_time_strayed write write_one strays c k may));
    is_mixed = λ k older kp rest x has may a. a.untimely (in_time_strayed write write_one strays c k may);
  }

  pub client_captures : (c : Endpoint) (busy : Recorded → Bool) → ((d : Recorded) → busy d ≡ true → is_with c d ≡ true) → (recorded : List Recorded) (each : List (List Recorded)) → filter busy recorded ≡ flat_map (λ capture. capture) each
      → AllByRecursion (λ k. IsStrayedAt write strays c k × HasNoSilence k) each → (k : List Recorded) × AreCaptures (IsStrayedAt write strays c) c (filter busy recorded) k
  client_captures c busy busy_with recorded each same all = captures_at c (IsStrayedAt write strays c) (strayed_before write write_one strays c) (follows_strayed write write_one strays c) (filter busy recorded) each
      (told_filter (λ d. is_with c d ≡ true) busy recorded (all_of (λ d. busy d ≡ true → is_with c d ≡ true) busy_with recorded)) same all

  module _ (clients : List Endpoint) (recorded : List Recorded) (g : AreAll (IsStrayedAt write strays) clients recorded) (newer older : List Placed) (p : Placed) (are : placed [] recorded ≡ newer ++ p ∷ older)
      (x : Transfer) (at : transfer_of p.place ≡ Some x) (is_client : Contains clients x.client) where
    this : is_of x.number p ≡ true
    this = of_transfer x.number p.datagram p.moment p.place x at ∙ eq-eqb x.number x.number refl

    asks_69 : x.asked.port ≡ 69
    asks_69 = asked_of (IsStrayedAt write strays) clients recorded g newer older p are x at is_client

    -- a doubt is there, or the view up to this datagram breaks no rule, or the first that came was a stray
    pub seen_or_led : (needs_doubt x.number (placed [] recorded) p older ≡ true)
        ⊎ (OneEnded (at_client_of x.asked.port) (as_seen_by write x.client p.datagram ∷ map (seen write x.client) (client_view x.number older)) ⊎ IsLed write write_one strays x.client (client_view x.number (p ∷ older)))
    seen_or_led = elim (doubted_or (IsStrayedAt write strays) clients recorded g x.client (IsGood x.client) ⊥ (inl tt) (stated x.client) is_client newer older p are x at refl) [
      | inl doubt ↦ inl doubt
      | inr (inl none) ↦ absurd none.0
      | inr (inr (inl fair)) ↦ inr (inl (subst (λ port. OneEnded (at_client_of port) (as_seen_by write x.client p.datagram ∷ map (seen write x.client) (client_view x.number older))) (sym asks_69)
          (subst (λ l. OneEnded (at_client_of 69) (map (seen write x.client) l)) (filter_kept (is_of x.number) p older this) fair)))
      | inr (inr (inr led)) ↦ inr (inr led)
    ]

  module _ (clients : List Endpoint) (recorded : List Recorded) (g : AreAll (IsStrayedAt write strays) clients recorded) (newer older : List Placed) (p : Placed) (are : placed [] recorded ≡ newer ++ p ∷ older)
      (x : Transfer) (at : transfer_of p.place ≡ Some x) (is_client : Contains clients x.client)
      (rule : Rule) (refused : IsRefused (at_client_of x.asked.port) (map (seen write x.client) (client_view x.number older)) (as_seen_by write x.client p.datagram) rule) where
    -- a doubt is there, or the first that came was a stray
    pub refused_or_led : (needs_doubt x.number (placed [] recorded) p older ≡ true) ⊎ IsLed write write_one strays x.client (client_view x.number (p ∷ older))
    refused_or_led = elim (seen_or_led clients recorded g newer older p are x at is_client) [
      | inl doubt ↦ inl doubt
      | inr (inl fair) ↦ absurd (refused_does_not_pass (at_client_of x.asked.port) (map (seen write x.client) (client_view x.number older)) (as_seen_by write x.client p.datagram) rule refused fair)
      | inr (inr led) ↦ inr led
    ]

    steady : GoesOnSteady write write_one strays x.client x.number (placed [] recorded)
    steady = kept_whole (IsStrayedAt write strays) clients recorded g x.client (GoesOnSteady write write_one strays x.client) (steady_none write write_one strays x.client) (steady_other write write_one strays x.client)
        (steady_one write write_one strays x.client) is_client newer older p are x at refl

    pub by_four : (needs_doubt x.number (placed [] recorded) p older || is_led_astray x.number (placed [] recorded) p older) ≡ true
    by_four = elim refused_or_led [
      | inl doubt ↦ or_left (needs_doubt x.number (placed [] recorded) p older) (is_led_astray x.number (placed [] recorded) p older) doubt
      | inr led ↦ astray led
    ] where
      astray : IsLed write write_one strays x.client (client_view x.number (p ∷ older)) → (needs_doubt x.number (placed [] recorded) p older || is_led_astray x.number (placed [] recorded) p older) ≡ true
      astray led = by_test (some_of x.number goes_on_with_first (placed [] recorded))
          (λ on. elim (steady on) [
            | inl doubt ↦ or_left (needs_doubt x.number (placed [] recorded) p older) (is_led_astray x.number (placed [] recorded) p older)
                (or_left (is_doubted_there x.number (placed [] recorded)) (some_of x.number is_late (p ∷ older)) doubt)
            | inr found ↦
                let there : first_of came_in (client_view x.number (placed [] recorded)) ≡ Some led.0 = ap (λ l. first_of came_in (client_view x.number l)) are ∙ view_whole x.number newer (p ∷ older) led.0 led.1 in
                let both : Some led.0 ≡ Some found.0 = sym there ∙ found.1 in
                let same : led.0 ≡ found.0 = cc in
                absurd (false≢true (sym found.2 ∙ ap (λ (q : Placed). strays q.datagram) (sym same) ∙ led.2))
          ])
          (λ off. or_right (needs_doubt x.number (placed [] recorded) p older) (is_led_astray x.number (placed [] recorded) p older)
          (and_from (some_of x.number comes_in (p ∷ older)) (not (some_of x.number goes_on_with_first (placed [] recorded))) (came_some x.number (p ∷ older) led.0 led.1) (ap not off)))
