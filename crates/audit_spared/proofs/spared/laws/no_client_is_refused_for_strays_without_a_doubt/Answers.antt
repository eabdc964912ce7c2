use Rattle.std.proofs.Common.{◌≡◌, ℕ, Bool, true, false, ◌||◌, [], ◌∷◌, List, Contains, inl, inr, not, ap, subst, sym, ◌∙◌, if◌then◌else◌}
use Rattle.std.specs.List.{AllByRecursion}
use Rattle.std.proofs.lemmas.Bool.{false≢true, or_cases, or_left, or_right}
use Rattle.law_end.specs.{IsLawful}
use Rattle.audit_flows.specs.Lines.{Recorded, is_late, says_first_word}
use Rattle.audit_flows.specs.{Address, Endpoint}
use Rattle.audit_flows.proofs.LinesLemmas.Lines.{by_test}
use Rattle.audit_spared.specs.Spared.{AreIdle, AreStrayed, AreStraysHere, IsStrayedCapture, is_busy, needs_doubt, without_strays}
use Rattle.audit_spared.specs.Spared.Seen.{HasNoSilence, at_client_of, is_with}
use Rattle.audit_spared.proofs.SparedLemmas.Basics.{doubtful_is, or_more}
use Rattle.audit_spared.proofs.SparedLemmas.ClientEnd.{client_captures, lawful_at}
use Rattle.audit_spared.proofs.SparedLemmas.Interleaved.{strayed_by_four}
use Rattle.audit_spared.proofs.SparedLemmas.Kept.{AreAside}
use Rattle.audit_spared.proofs.SparedLemmas.Lists.{by_recursion}
use Rattle.audit_spared.proofs.SparedLemmas.Renamed.{IsNamedAsBefore, renamed, renamed_one}
use Rattle.audit_spared.proofs.SparedLemmas.Requests.{all_filter}
use Rattle.audit_spared.proofs.SparedLemmas.Retold.{all_both, capture_same, captures_before}
use Rattle.audit_spared.proofs.SparedLemmas.Strays.{AreTold, IsStrayedAt}
use Rattle.audit_spared.proofs.SparedLemmas.Whole.{AreAll}
use Rattle.audit_flows.specs.Transfers.{is_beside, is_doubted, is_led_astray, placed, some_of, tells_strays}
use Rattle.audit_spared.proofs.spared.laws.no_client_is_refused_for_strays_without_a_doubt.Goals as goal

-- ---- strays are told so

all_told : (strays : Recorded → Bool) (c : Endpoint) (k : List Recorded) → AreStraysHere strays c k → AreTold strays c k
all_told strays c [] are = tt
all_told strays c (d ∷ k) are = ((λ is. let one = are.0 is in record { behind = one.behind; told = one.told }), are.1, all_told strays c k are.2)

-- ---- what is idle passes aside

module _ (idle : Recorded → Bool) where
  busy_is : (c : Endpoint) (d : Recorded) → is_busy idle c d ≡ true → is_with c d ≡ true
  busy_is c d on = by_test (idle d)
      (λ is. absurd (false≢true (sym (ap (λ b. if b then false else is_with c d) is) ∙ on)))
      (λ off. sym (ap (λ b. if b then false else is_with c d) off) ∙ on)

  not_idle : (c : Endpoint) (d : Recorded) → is_busy idle c d ≡ false → idle d ≡ false → is_with c d ≡ false
  not_idle c d off is = sym (ap (λ b. if b then false else is_with c d) is) ∙ off

  asides_of : (clients : List Endpoint) (c : Endpoint) → Contains clients c → (ds : List Recorded) → AreIdle idle clients ds → AreAside c (is_busy idle c) ds
  asides_of clients c is_client [] idles = tt
  asides_of clients c is_client (d ∷ ds) idles = (
    λ off. by_test (is_with c d)
        (λ with. by_test (idle d)
        (λ is. let one = idles.0 is c is_client with in inr (record { plain = one.plain; alone = one.alone }))
        (λ not_one. inl (not_idle c d off not_one)))
        (λ out. inl out),
    asides_of clients c is_client ds idles.1,
  )

  strangers_of : (clients : List Endpoint) (c e : Endpoint) → Contains clients c → Contains clients e → (ds : List Recorded) → AreIdle idle clients ds
      → AllByRecursion (λ d. is_busy idle c d ≡ false → is_with c d ≡ true → is_with e d ≡ true → c ≡ e) ds
  strangers_of clients c e one other [] idles = tt
  strangers_of clients c e one other (d ∷ ds) idles = (
    λ off with also. by_test (idle d)
        (λ is. (idles.0 is c one with).apart e other also)
        (λ not_one. absurd (false≢true (sym (not_idle c d off not_one) ∙ with))),
    strangers_of clients c e one other ds idles.1,
  )

-- ---- with names that no other host has

given : (write : Address → List ℕ) (strays idle : Recorded → Bool) (clients : List Endpoint) (recorded : List Recorded) → AreStrayed write strays idle clients recorded
    → AreAll (IsStrayedAt (renamed write recorded) strays) clients recorded
given write strays idle clients recorded g = record {
  busy = is_busy idle;
  busy_with = busy_is idle;
  asides = λ c is_client. asides_of idle clients c is_client recorded g.idles;
  strangers = λ c e is_client other. strangers_of idle clients c e is_client other recorded g.idles;
  captures = λ c is_client.
      let (each, same, all) = g.captures c is_client in
      client_captures (renamed write recorded) (renamed_one write recorded g.hosts) strays c (is_busy idle c) (busy_is idle c) recorded each same
      (all_both (IsStrayedCapture write strays c) (λ k. AllByRecursion (IsNamedAsBefore write recorded) k) (λ k. IsStrayedAt (renamed write recorded) strays c k × HasNoSilence k)
      (λ k capture before. (
        record {
          passes = lawful_at (renamed write recorded) c (without_strays strays k)
              (subst (IsLawful (at_client_of 69)) (sym (capture_same write recorded c (without_strays strays k) (all_filter (IsNamedAsBefore write recorded) (λ d. not (strays d)) k before))) capture.lawful);
          apart = all_told strays c k capture.apart;
        },
        capture.steady,
      ))
      each (by_recursion (IsStrayedCapture write strays c) each all) (captures_before write recorded (is_busy idle c) each same));
  others = g.others;
  quiet = λ c is_client. inl (g.ports c is_client);
  order = g.order;
}

pub returns-clause-by_four : goal.returns-clause-by_four
returns-clause-by_four c write strays idle clients recorded g newer older p are x at is_client rule refused =
    strayed_by_four write strays clients recorded g.hosts (given write strays idle clients recorded g) newer older p are x at is_client rule refused

pub returns-clause-spared : goal.returns-clause-spared
returns-clause-spared c write strays idle clients recorded g newer older p are x at is_client rule refused =
    let n = x.number in
    let whole = placed [] recorded in
    elim (or_cases (needs_doubt n whole p older) (is_led_astray n whole p older) (strayed_by_four write strays clients recorded g.hosts (given write strays idle clients recorded g) newer older p are x at is_client rule refused)) [
      | inl doubt ↦ doubtful_is x.number (placed [] recorded) p older doubt
      | inr led ↦
          or_more (is_doubted n whole || is_led_astray n whole p older || some_of n is_late (p ∷ older) || is_beside p) (tells_strays n p older) (some_of n says_first_word (p ∷ older))
          (or_left (is_doubted n whole || is_led_astray n whole p older || some_of n is_late (p ∷ older)) (is_beside p)
          (or_left (is_doubted n whole || is_led_astray n whole p older) (some_of n is_late (p ∷ older))
          (or_right (is_doubted n whole) (is_led_astray n whole p older) led)))
    ]
