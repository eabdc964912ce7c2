-- What passes beside a server passes with another than its client: the client's line is not silent, and so what passes with it is
-- told there.
use Rattle.std.proofs.Common.{◌≡◌, ◌≢◌, ◌⊎◌, ◌≤◌, ◌+◌, ◌==◌, ◌&&◌, ℕ, Bool, true, false, List, [], ◌∷◌, Option, Some, None, inl, inr, arith, refl, sym, ap, subst, ◌∙◌, not, nat_le, max, length, if◌then◌else◌}
use Rattle.std.specs.List.{AllByRecursion}
use Rattle.std.proofs.lemmas.Bool.{false≢true, leb-true, le-leb, eqb-true}
use Rattle.law_end.proofs.Division.Divided.{any_cases, any_later}
use Rattle.audit_flows.specs.Lines.{Recorded, same_endpoint, goes, is_again, Placed, opens, is_apart, is_at, newest_of, live, line, silence, latest_in, answered_in, is_known_host, talk_in, place_talked, place_at, opened_by, asked_after, clock}
use Rattle.audit_flows.specs.{Endpoint, Place, Opens, Repeats, Talks, Apart, Beside, Nowhere, Transfer, Talk}
use Rattle.audit_flows.proofs.LinesLemmas.Endpoints.{is_same, same_itself}
use Rattle.audit_flows.proofs.LinesLemmas.Lines.{by_test}
use Rattle.audit_flows.specs.Transfers.{at_client, beside, beside_by, either, or_talks, serves, newer, last_served, served_by, served_at, is_about, is_service, is_nowhere, asks, place_of, placed}
use Rattle.audit_flows.specs.{Served}
use Rattle.audit_flows.proofs.TransfersLemmas.AllLines.{line_here, line_elsewhere}
use Rattle.audit_flows.proofs.TransfersLemmas.Ends.{opened, again, asked_as, asked_place, placed_where}
use Rattle.audit_cleared.specs.{IsOpenedIn}
use Rattle.audit_flows.proofs.TransfersLemmas.Numbers.{none_before}
use Rattle.std.proofs.lemmas.List.Elements.{recursion_from_All}
use Rattle.audit_cleared.proofs.Own.{opened_after}
use Rattle.audit_cleared.proofs.Opened.{IsHeld, all_opened, opened_one}

-- ---- a line that is not silent tells of a transfer

live_or : (now : ℕ) (ps : List Placed) → (live now ps ≡ []) ⊎ (live now ps ≡ ps)
live_or now [] = inl refl
live_or now (p ∷ ps) = by_test (nat_le now (p.moment + silence))
    (λ is. inr (ap (λ b. if b then p ∷ ps else []) is))
    (λ off. inl (ap (λ b. if b then p ∷ ps else []) off))

abbrev Tells : List Placed → Type 0
Tells ps = (ps ≡ []) ⊎ ((z : Transfer) × (latest_in ps ≡ Some z))

live_tells : (now : ℕ) (ps : List Placed) → Tells ps → Tells (live now ps)
live_tells now ps tells = elim (live_or now ps) [ inl none ↦ inl none | inr all ↦ subst Tells (sym all) tells ]

-- a datagram that opens nothing stands over those that tell
more_tells : (p : Placed) (ps : List Placed) → opens p ≡ false → ps ≢ [] → Tells ps → Tells (p ∷ ps)
more_tells p ps off some (inl none) = absurd (some none)
more_tells p ps off some (inr (z, is)) = inr (z, same ∙ is) where
  same : latest_in (p ∷ ps) ≡ latest_in ps
  same = rw off refl

repeated_some : (older : List Placed) (now : ℕ) (d : Recorded) (y : Transfer) → asked_place older now d ≡ Repeats y → live now (line d.source older) ≢ []
repeated_some older now d y is none = let both : opened_by (length older) d ≡ Repeats y = rw none at is in absurd (cc)

module _ (named : List ℕ) (older : List Placed) (now : ℕ) (d : Recorded) where
  abbrev this : Placed
  this = record { datagram = d; moment = now; place = place_of named older now d }

  here_tells : (c : Endpoint) → is_at c (record { datagram = d; moment = now; place = place_of named older now d }) ≡ true → Tells (live now (line c older)) → Tells (this ∷ live now (line c older))
  here_tells c at before = by (place_of named older now d) refl at where
    over : opens this ≡ false → (e : Endpoint) → e ≡ c → live now (line e older) ≢ [] → Tells (this ∷ live now (line c older))
    over off e same some = more_tells this (live now (line c older)) off (subst (λ o. live now (line o older) ≢ []) same some) before

    by : (place : Place) → place_of named older now d ≡ place → is_at c (record { datagram = d; moment = now; place = place }) ≡ true → Tells (this ∷ live now (line c older))
    by (Opens y) is at = inr (y, rw is refl)
    by (Repeats y) is at = over (rw is refl) d.source (sym ((placed_where named older now d).repeats y is).0 ∙ is_same y.client c at) (repeated_some older now d y ((placed_where named older now d).repeats y is).1)
    by (Talks y) is at = over (rw is refl) y.client (is_same y.client c at) ((placed_where named older now d).talks y is).1
    by (Apart a) is at = over (rw is refl) a (is_same a c at) ((placed_where named older now d).apart a is).1
    by _ is at = absurd (false≢true at)

line_tells : (named : List ℕ) (recorded : List Recorded) (c : Endpoint) → Tells (line c (placed named recorded))
line_tells named [] c = inl refl
line_tells named (d ∷ recorded) c = with_this named recorded d c (line_tells named recorded c) where
  with_this : (named : List ℕ) (recorded : List Recorded) (d : Recorded) (c : Endpoint) → Tells (line c (placed named recorded)) → Tells (line c (placed named (d ∷ recorded)))
  with_this named recorded d c before =
      let older : List Placed = placed named recorded in
      let now : ℕ = max d.time (clock older) in
      by_test (is_at c (this named older now d))
      (λ at. subst Tells (sym (line_here c (this named older now d) older at)) (here_tells named older now d c at (live_tells now (line c older) before)))
      (λ off. subst Tells (sym (line_elsewhere c (this named older now d) older off)) before)

-- ---- what is nowhere has silent lines at both ends

abbrev IsSpoken : Place → Type 0
IsSpoken (Talks x) = Unit {0}
IsSpoken (Apart c) = Unit {0}
IsSpoken _ = ⊥

chosen_spoken : (b : Bool) (one other : Place) → IsSpoken one → IsSpoken other → IsSpoken (if b then one else other)
chosen_spoken true one other is also = is
chosen_spoken false one other is also = also

talked_spoken : (c o : Endpoint) (x : Transfer) (answered : Option Endpoint) (d : Recorded) (talk : Option Talk) → IsSpoken (place_talked c o x answered d talk)
talked_spoken c o x answered d None = chosen_spoken (same_endpoint d.source c && not (is_known_host x answered o)) (Apart c) (Talks x) tt tt
talked_spoken c o x answered d (Some t) = by t.transfer refl where
  by : (of : Option Transfer) → t.transfer ≡ of → IsSpoken (place_talked c o x answered d (Some t))
  by None is = rw is tt
  by (Some y) is = rw is (chosen_spoken _ (Talks x) (Talks y) tt tt)

-- a line tells of no transfer, or what passes is spoken at it
pub data SaidBy (ps : List Placed) (place : Place) : Type 0 where
  silent : latest_in ps ≡ None → place ≡ Nowhere → SaidBy ps place
  spoken_there : IsSpoken place → SaidBy ps place

said_by : (c o : Endpoint) (ps : List Placed) (d : Recorded) → SaidBy ps (place_at c o ps d)
said_by c o ps d = by (latest_in ps) refl where
  by : (found : Option Transfer) → latest_in ps ≡ found → SaidBy ps (place_at c o ps d)
  by None is = silent is (rw is refl)
  by (Some x) is = spoken_there (rw is (talked_spoken c o x (answered_in x ps) d (talk_in c o ps)))

or_talks_spoken : (one other : Place) → IsSpoken one → IsSpoken (or_talks one other)
or_talks_spoken one (Talks x) is = tt
or_talks_spoken one _ is = is

-- two lines: both are silent, or what passes is spoken
either_said : (ps qs : List Placed) (one other : Place) → SaidBy ps one → SaidBy qs other → ((latest_in ps ≡ None) × (latest_in qs ≡ None) × (either one other ≡ Nowhere)) ⊎ IsSpoken (either one other)
either_said ps qs (Talks x) other is also = inr tt
either_said ps qs (Apart c) other is also = inr (or_talks_spoken (Apart c) other tt)
either_said ps qs Nowhere other (spoken_there is) also = absurd is
either_said ps qs Nowhere other (silent none is) (silent also_none also) = inl (none, also_none, also)
either_said ps qs Nowhere other (silent none is) (spoken_there also) = inr also
either_said ps qs _ other (spoken_there is) also = absurd is
either_said ps qs _ other (silent none is) also = absurd (cc)

module _ (named : List ℕ) (recorded : List Recorded) (d : Recorded) where
  abbrev older : List Placed
  older = placed named recorded

  abbrev now : ℕ
  now = max d.time (clock (placed named recorded))

  client_said : ((latest_in (live (max d.time (clock (placed named recorded))) (line d.source (placed named recorded))) ≡ None)
      × (latest_in (live (max d.time (clock (placed named recorded))) (line d.target (placed named recorded))) ≡ None) × (at_client (placed named recorded) (max d.time (clock (placed named recorded))) d ≡ Nowhere))
      ⊎ IsSpoken (at_client (placed named recorded) (max d.time (clock (placed named recorded))) d)
  client_said = either_said (live now (line d.source older)) (live now (line d.target older)) (place_at d.source d.target (live now (line d.source older)) d) (place_at d.target d.source (live now (line d.target older)) d)
      (said_by d.source d.target (live now (line d.source older)) d) (said_by d.target d.source (live now (line d.target older)) d)

  none_silent : (c : Endpoint) → latest_in (live (max d.time (clock (placed named recorded))) (line c (placed named recorded))) ≡ None → live (max d.time (clock (placed named recorded))) (line c (placed named recorded)) ≡ []
  none_silent c none = elim (live_tells now (line c older) (line_tells named recorded c)) [
    | inl is ↦ is
    | inr some ↦ let both : None ≡ Some some.0 = sym none ∙ some.1 in absurd (cc)
  ]

  -- what is beside has silent lines at both ends, and is what `beside` says
  pub record IsAsideOf (y : Transfer) : Type 0 where
    pub source : live (max d.time (clock (placed named recorded))) (line d.source (placed named recorded)) ≡ []
    pub target : live (max d.time (clock (placed named recorded))) (line d.target (placed named recorded)) ≡ []
    pub is : beside named (placed named recorded) (max d.time (clock (placed named recorded))) d ≡ Beside y

  asked_not_beside : (y : Transfer) → asked_place (placed named recorded) (max d.time (clock (placed named recorded))) d ≡ Beside y → ⊥
  asked_not_beside y is = by (newest_of (λ p. not (is_apart p)) (live now (line d.source older))) refl where
    by : (found : Option Placed) → newest_of (λ p. not (is_apart p)) (live now (line d.source older)) ≡ found → ⊥
    by None none = let both : opened_by (length older) d ≡ Beside y = rw none at is in absurd (cc)
    by (Some p) found =
        let after : asked_after (opened_by (length older) d) p.place (is_again p.datagram d) ≡ Beside y = rw found at is in
        elim (asked_as p.place (is_again p.datagram d) (length older) d) [
          | opened e ↦ let both : opened_by (length older) d ≡ Beside y = sym e ∙ after in absurd (cc)
          | again z e of ↦ let both : Repeats z ≡ Beside y = sym e ∙ after in absurd (cc)
        ]

  spoken_not_beside : (place : Place) (y : Transfer) → IsSpoken place → place ≡ Beside y → ⊥
  spoken_not_beside (Talks x) y is at = cc
  spoken_not_beside (Apart c) y is at = cc
  spoken_not_beside _ y is at = absurd is

  spoken_somewhere : (place : Place) → IsSpoken place → is_nowhere place ≡ false
  spoken_somewhere (Talks x) is = refl
  spoken_somewhere (Apart c) is = refl
  spoken_somewhere _ is = absurd is

  aside_of : (y : Transfer) → place_of named (placed named recorded) (max d.time (clock (placed named recorded))) d ≡ Beside y → IsAsideOf y
  aside_of y is = by_test (asks named older now d) asked talked where
    asked : asks named older now d ≡ true → IsAsideOf y
    asked on = absurd (asked_not_beside y (sym (ap (λ b. if b then asked_place older now d else if is_nowhere (at_client older now d) then beside named older now d else at_client older now d) on) ∙ is))

    by_place : asks named older now d ≡ false → (if is_nowhere (at_client older now d) then beside named older now d else at_client older now d) ≡ Beside y
    by_place off = sym (ap (λ b. if b then asked_place older now d else if is_nowhere (at_client older now d) then beside named older now d else at_client older now d) off) ∙ is

    talked : asks named older now d ≡ false → IsAsideOf y
    talked off = elim client_said [
      | inl (one, other, nowhere) ↦ record {
        source = none_silent d.source one;
        target = none_silent d.target other;
        is = sym (ap (λ p. if is_nowhere p then beside named older now d else p) nowhere) ∙ by_place off;
      }
      | inr spoken ↦ absurd (spoken_not_beside (at_client older now d) y spoken
          (sym (ap (λ b. if b then beside named older now d else at_client older now d) (spoken_somewhere (at_client older now d) spoken)) ∙ by_place off))
    ]

-- ---- whom an endpoint served lately has a line that is not silent

pub record Head (c : Endpoint) (ps : List Placed) (moment : ℕ) : Type 0 where
  pub head : Placed
  pub rest : List Placed
  pub is : line c ps ≡ head ∷ rest
  pub later : moment ≤ head.moment
  pub before : head.moment ≤ clock ps

serves_is : (o : Endpoint) (p : Placed) (s : Served) → serves o p ≡ Some s → (p.place ≡ Talks s.transfer) × (s.moment ≡ p.moment)
serves_is o p s is = by p.place refl is where
  by : (place : Place) → p.place ≡ place → serves o (record { datagram = p.datagram; moment = p.moment; place = place }) ≡ Some s → (p.place ≡ Talks s.transfer) × (s.moment ≡ p.moment)
  by (Talks y) at is = by_test (goes o y.client p.datagram)
      (λ there.
      let served : Some (record { transfer = y; moment = p.moment }) ≡ Some s = sym (ap (λ b. if b then Some (record { transfer = y; moment = p.moment }) else None) there) ∙ is in
      let same : record { transfer = y; moment = p.moment } ≡ s = cc in
      (at ∙ ap Talks (ap (λ (r : Served). r.transfer) same), sym (ap (λ (r : Served). r.moment) same)))
      (λ off. let none : None ≡ Some s = sym (ap (λ b. if b then Some (record { transfer = y; moment = p.moment }) else None) off) ∙ is in absurd (cc))
  by _ at is = absurd (cc)

head_now : (p : Placed) (older : List Placed) (s : Served) → (p.place ≡ Talks s.transfer) × (s.moment ≡ p.moment) → Head s.transfer.client (p ∷ older) s.moment
head_now p older s (at, moment) = record {
  head = p;
  rest = live p.moment (line s.transfer.client older);
  is = line_here s.transfer.client p older (rw at (same_itself s.transfer.client));
  later = omega (arith, moment);
  before = omega arith;
}

head_later : (c : Endpoint) (p : Placed) (older : List Placed) (moment : ℕ) → clock older ≤ p.moment → Head c older moment → Head c (p ∷ older) moment
head_later c p older moment up h = by_test (is_at c p)
    (λ at. record {
      head = p;
      rest = live p.moment (line c older);
      is = line_here c p older at;
      later = omega (arith, h.later, h.before, up);
      before = omega arith;
    })
    (λ off. record { head = h.head; rest = h.rest; is = line_elsewhere c p older off ∙ h.is; later = h.later; before = omega (arith, h.before, up) })

last_head : (o : Endpoint) (named : List ℕ) (recorded : List Recorded) (s : Served) → last_served o (placed named recorded) ≡ Some s → Head s.transfer.client (placed named recorded) s.moment × IsOpenedIn s.transfer (placed named recorded)
last_head o named [] s is = absurd (cc)
last_head o named (d ∷ recorded) s is = by (serves o (this named (placed named recorded) (max d.time (clock (placed named recorded))) d)) refl (last_head o named recorded s) where
  p : Placed
  p = this named (placed named recorded) (max d.time (clock (placed named recorded))) d

  up : clock (placed named recorded) ≤ max d.time (clock (placed named recorded))
  up = omega arith

  now_opened : p.place ≡ Talks s.transfer → IsOpenedIn s.transfer (placed named (d ∷ recorded))
  now_opened at = subst (IsHeld (λ x. IsOpenedIn x (placed named (d ∷ recorded)))) at (all_opened named (d ∷ recorded)).0

  by : (now : Option Served) → serves o p ≡ now → (last_served o (placed named recorded) ≡ Some s → Head s.transfer.client (placed named recorded) s.moment × IsOpenedIn s.transfer (placed named recorded))
      → Head s.transfer.client (placed named (d ∷ recorded)) s.moment × IsOpenedIn s.transfer (placed named (d ∷ recorded))
  by (Some one) served before =
      let same : Some one ≡ Some s = sym (ap (λ r. newer r (last_served o (placed named recorded))) served) ∙ is in
      let at = serves_is o p s (served ∙ same) in
      (head_now p (placed named recorded) s at, now_opened at.0)
  by None served before =
      let r = before (sym (ap (λ r. newer r (last_served o (placed named recorded))) served) ∙ is) in
      (head_later s.transfer.client p (placed named recorded) s.moment up r.0, any_later (λ (q : Placed). q.place ≡ Opens s.transfer) p (placed named recorded) r.1)

-- so whom something passed beside has a line that is not silent
served_lately : (o : Endpoint) (named : List ℕ) (recorded : List Recorded) (now : ℕ) (y : Transfer) → served_by o now (placed named recorded) ≡ Some y
    → (live now (line y.client (placed named recorded)) ≢ []) × IsOpenedIn y (placed named recorded)
served_lately o named recorded now y is = by (last_served o (placed named recorded)) refl where
  by : (last : Option Served) → last_served o (placed named recorded) ≡ last → (live now (line y.client (placed named recorded)) ≢ []) × IsOpenedIn y (placed named recorded)
  by None none = let both : None ≡ Some y = rw none at is in absurd (cc)
  by (Some s) last =
      let within : (if nat_le now (s.moment + silence) then Some s.transfer else None) ≡ Some y = rw last at is in
      let r = last_head o named recorded s last in
      by_test (nat_le now (s.moment + silence))
      (λ recent.
      let one : Some s.transfer ≡ Some y = sym (ap (λ b. if b then Some s.transfer else None) recent) ∙ within in
      let same : s.transfer ≡ y = cc in
      (not_silent s r.0 recent same, subst (λ z. IsOpenedIn z (placed named recorded)) same r.1))
      (λ off. let none : None ≡ Some y = sym (ap (λ b. if b then Some s.transfer else None) off) ∙ within in absurd (cc))
    where
      not_silent : (s : Served) → Head s.transfer.client (placed named recorded) s.moment → nat_le now (s.moment + silence) ≡ true → s.transfer ≡ y → live now (line y.client (placed named recorded)) ≢ []
      not_silent s h recent same none =
          let low : now ≤ s.moment + silence = leb-true now (s.moment + silence) recent in
          let high : now ≤ h.head.moment + silence = omega (arith, h.later, low) in
          let all : live now (h.head ∷ h.rest) ≡ h.head ∷ h.rest = ap (λ b. if b then h.head ∷ h.rest else []) (le-leb now (h.head.moment + silence) high) in
          let there : live now (line s.transfer.client (placed named recorded)) ≡ h.head ∷ h.rest = ap (live now) h.is ∙ all in
          let silent_there : live now (line s.transfer.client (placed named recorded)) ≡ [] = subst (λ (z : Transfer). live now (line z.client (placed named recorded)) ≡ []) (sym same) none in
          let both : [] ≡ h.head ∷ h.rest = sym silent_there ∙ there in cc

-- ---- so what is beside is not the client's

served_by_one : (named : List ℕ) (older : List Placed) (now : ℕ) (o : Endpoint) (y : Transfer) → served_at named older now o ≡ Some y → served_by o now older ≡ Some y
served_by_one named older now o y is = by_test (is_service named older o.port)
    (λ on. let none : None ≡ Some y = sym (ap (λ b. if b then None else served_by o now older) on) ∙ is in absurd (cc))
    (λ off. sym (ap (λ b. if b then None else served_by o now older) off) ∙ is)

one_of_both : (one other : Option Transfer) (y : Transfer) → beside_by one other ≡ Beside y → (one ≡ Some y) ⊎ (other ≡ Some y)
one_of_both (Some z) other y is = inl (let same : z ≡ y = cc in ap Some same)
one_of_both None (Some z) y is = inr (let same : z ≡ y = cc in ap Some same)
one_of_both None None y is = absurd (cc)

beside_other : (named : List ℕ) (recorded : List Recorded) (d : Recorded) (y : Transfer) → place_of named (placed named recorded) (max d.time (clock (placed named recorded))) d ≡ Beside y
    → (d.source ≡ y.client → ⊥) × (d.target ≡ y.client → ⊥) × IsOpenedIn y (placed named recorded)
beside_other named recorded d y is =
    let a = aside_of named recorded d y is in
    let r = by (one_of_both (served_at named (placed named recorded) (max d.time (clock (placed named recorded))) d.source) (served_at named (placed named recorded) (max d.time (clock (placed named recorded))) d.target) y a.is) in (
      λ same. r.0 (subst (λ c. live (max d.time (clock (placed named recorded))) (line c (placed named recorded)) ≡ []) same a.source),
      λ same. r.0 (subst (λ c. live (max d.time (clock (placed named recorded))) (line c (placed named recorded)) ≡ []) same a.target),
      r.1,
    )
  where
    now_there : ℕ
    now_there = max d.time (clock (placed named recorded))

    by : (served_at named (placed named recorded) now_there d.source ≡ Some y) ⊎ (served_at named (placed named recorded) now_there d.target ≡ Some y)
        → (live now_there (line y.client (placed named recorded)) ≢ []) × IsOpenedIn y (placed named recorded)
    by (inl one) = served_lately d.source named recorded now_there y (served_by_one named (placed named recorded) now_there d.source y one)
    by (inr other) = served_lately d.target named recorded now_there y (served_by_one named (placed named recorded) now_there d.target y other)

-- of a transfer with this number
abbrev pub IsAsideOther : Transfer → Placed → Type 0
IsAsideOther x p = (y : Transfer) → p.place ≡ Beside y → (y.number == x.number) ≡ true → (p.datagram.source ≡ x.client → ⊥) × (p.datagram.target ≡ x.client → ⊥)

not_about : (x : Transfer) (p : Placed) → is_about x.number p ≡ false → IsAsideOther x p
not_about x p off y at same = absurd (false≢true (sym off ∙ rw at same))

not_about_all : (x : Transfer) (qs : List Placed) → AllByRecursion (λ q. is_about x.number q ≡ false) qs → AllByRecursion (IsAsideOther x) qs
not_about_all x [] all = tt
not_about_all x (q ∷ qs) all = (not_about x q all.0, not_about_all x qs all.1)

pub besides_all : (named : List ℕ) (recorded : List Recorded) (x : Transfer) → IsOpenedIn x (placed named recorded) → AllByRecursion (IsAsideOther x) (placed named recorded)
besides_all named [] x is = tt
besides_all named (d ∷ recorded) x is = by (any_cases (λ (q : Placed). q.place ≡ Opens x) here (placed named recorded) is) (besides_all named recorded x) where
  here : Placed
  here = this named (placed named recorded) (max d.time (clock (placed named recorded))) d

  by : (here.place ≡ Opens x) ⊎ IsOpenedIn x (placed named recorded) → (IsOpenedIn x (placed named recorded) → AllByRecursion (IsAsideOther x) (placed named recorded)) → AllByRecursion (IsAsideOther x) (placed named (d ∷ recorded))
  by (inl now) more = (
    λ y at same. let both : Opens x ≡ Beside y = sym now ∙ at in absurd (cc),
    not_about_all x (placed named recorded) (recursion_from_All (λ p. is_about x.number p ≡ false) (placed named recorded) (none_before named recorded x.number (opened_after named recorded d x now))),
  )
  by (inr before) more = (
    λ y at same.
        let r = beside_other named recorded d y at in
        let one : y ≡ x = opened_one named recorded y x r.2 before (eqb-true y.number x.number same) in
        subst (λ (z : Transfer). (d.source ≡ z.client → ⊥) × (d.target ≡ z.client → ⊥)) one (r.0, r.1),
    more before,
  )
