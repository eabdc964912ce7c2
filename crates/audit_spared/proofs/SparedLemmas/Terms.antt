-- Whether windows were asked for in the transfers that a client's line talks of.
use Rattle.std.proofs.Common.{◌≡◌, ◌⊎◌, ℕ, Bool, true, false, List, [], ◌∷◌, ◌++◌, Option, Some, None, inl, inr, refl, sym, ap, subst, ◌∙◌, ◌&&◌, not, map, bytes_eq, option_map, if◌then◌else◌}
use Rattle.std.specs.List.{list_any, AllByRecursion}
use Rattle.std.proofs.lemmas.Bool.{false≢true, or_cases, or_parts, or_left, or_right, and_from, and_parts}
use Rattle.std.proofs.lemmas.Slice.Eq.{bytes_eq-Decides}
use Rattle.tftp_packet.specs.{Message, OptionMap, Spells}
use Rattle.law_model.specs.Rules.{first_of, or_this}
use Rattle.law_model.proofs.ModelLemmas.Members.{contains_first, contains_later}
use Rattle.law_end.proofs.FirstBroken.FirstAnswered.{or_new}
use Rattle.audit_flows.specs.Lines.{Recorded, Placed, same_endpoint, is_between, is_again, other_of, is_of, is_request, newest_of, begins_request, goes, has_window, last_was_ack_0, opening, opens, reach, answers, answered_in, place_at, place_talked, talked_of}
use Rattle.audit_flows.specs.{Endpoint, Place, Opens, Repeats, Talks, Transfer}
use Rattle.audit_flows.specs.Lines.Recording.{is_answer, is_data_1}
use Rattle.audit_flows.proofs.LinesLemmas.Endpoints.{same_itself}
use Rattle.audit_flows.proofs.LinesLemmas.Lines.{by_test}
use Rattle.audit_flows.proofs.TransfersLemmas.Ends.{spoken}
use Rattle.audit_spared.specs.Spared.{Follows, asks_from, comes_at, goes_from}
use Rattle.audit_spared.proofs.SparedLemmas.Basics.{all_map, newest_all, newest_first, newest_some}
use Rattle.audit_spared.proofs.SparedLemmas.Places.{asks_none, comes_to_it, from_none, no_request_talks, place_new, place_some, place_unanswered, spoken_other, talk_found}
use Rattle.audit_spared.proofs.SparedLemmas.Stands.{new, AreWith, BeginsOacked, Has, HasTerms, IsKnown, IsPlain, OthersOf, Terms, TermsOf, ends_in_request, talks}
use Rattle.audit_spared.proofs.SparedLemmas.Stands.IsPlain.{asks as asked}

-- ---- nobody has answered a transfer of which nothing is talked

no_answer : (x : Transfer) (d : Recorded) (now : ℕ) (place : Place) → OthersOf x.number (new d now place) → answers x (new d now place) ≡ false
no_answer x d now (Talks y) other = ap (λ b. b && same_endpoint d.target x.client) (other refl)
no_answer x d now _ other = refl

none_answers : (x : Transfer) (ps : List Placed) → AllByRecursion (OthersOf x.number) ps → first_of (answers x) (reach ps) ≡ None
none_answers x [] all = refl
none_answers x (p ∷ ps) all = by_test (opens p)
    (λ is. ap (λ b. first_of (answers x) (if b then [] else p ∷ reach ps)) is)
    (λ off. ap (λ b. first_of (answers x) (if b then [] else p ∷ reach ps)) off ∙ ap (λ o. or_this o (answers x p) p) (none_answers x ps all.1)
    ∙ ap (λ b. or_this None b p) (no_answer x p.datagram p.moment p.place all.0))

pub unanswered : (x : Transfer) (ps : List Placed) → AllByRecursion (OthersOf x.number) ps → answered_in x ps ≡ None
unanswered x ps all = ap (option_map (λ p. p.datagram.source)) (none_answers x ps all)

-- ---- a datagram more

terms_later : (c : Endpoint) (d : Recorded) (k : List Recorded) (y : Transfer) → TermsOf c k y → TermsOf c (d ∷ k) y
terms_later c d k y t = record { request = t.request; there = contains_later d k t.request t.there; asks = t.asks; same = t.same }

all_later : (c : Endpoint) (d : Recorded) (k : List Recorded) (ps : List Placed) → AllByRecursion (HasTerms c k) ps → AllByRecursion (HasTerms c (d ∷ k)) ps
all_later c d k ps all = all_map (HasTerms c k) (HasTerms c (d ∷ k)) (λ q has y there. terms_later c d k y (has y there)) ps all

-- what is asked does not come
asks_off : (c : Endpoint) (d : Recorded) → asks_from c d ≡ true → comes_at c d ≡ false
asks_off c d is = ap not (and_parts (goes_from c d) (begins_request d.payload) is).0

or_off : (o : Option Recorded) (d : Recorded) → or_this o false d ≡ o
or_off None d = refl
or_off (Some e) d = refl

-- so what came first is as before
begins_before : (c : Endpoint) (d : Recorded) (k : List Recorded) → asks_from c d ≡ true → BeginsOacked c (d ∷ k) → BeginsOacked c k
begins_before c d k is (e, options, first, spells) = (e, options, sym (ap (λ b. or_this (first_of (comes_at c) k) b d) (asks_off c d is) ∙ or_off (first_of (comes_at c) k) d) ∙ first, spells)

none_later : (c : Endpoint) (d : Recorded) (k : List Recorded) → list_any (comes_at c) (d ∷ k) ≡ false → list_any (comes_at c) k ≡ false
none_later c d k none = (or_parts (comes_at c d) (list_any (comes_at c) k) none).1

-- ---- a request

again_window : (e d : Recorded) → is_again e d ≡ true → has_window e.payload ≡ has_window d.payload
again_window e d is = ap has_window ((bytes_eq-Decides e.payload d.payload).0 (and_parts (bytes_eq e.payload d.payload) (goes d.source d.target e) is).0)

pub terms_repeat : (c : Endpoint) (k : List Recorded) (q : Placed) (ps rest : List Placed) (x : Transfer) (d : Recorded) (now : ℕ) → is_request q ≡ true → is_again q.datagram d ≡ true → asks_from c d ≡ true
    → Terms c k (q ∷ ps) rest x → Terms c (d ∷ k) (new d now (Repeats x) ∷ q ∷ ps) rest x
terms_repeat c k q ps rest x d now request again is t = record {
  latest = terms_later c d k x t.latest;
  top = λ is_it. t.top request ∙ again_window q.datagram d again;
  unheard = λ top. ((λ off. absurd (false≢true (sym off))), t.unheard request);
  unspoken = λ none. (refl, t.unspoken (none_later c d k none));
  talked = λ o with first. ((λ y there. absurd (cc)), all_later c d k (q ∷ ps) (t.talked o with.1 (begins_before c d k is first)));
}

fresh_others : (n : ℕ) (ps : List Placed) → AllByRecursion (λ q. is_of n q ≡ false) ps → AllByRecursion (OthersOf n) ps
fresh_others n ps fresh = all_map (λ q. is_of n q ≡ false) (OthersOf n) (λ q other plain. other) ps fresh

pub terms_open : (c : Endpoint) (k : List Recorded) (kp rest : List Placed) (x : Transfer) (d : Recorded) (now n : ℕ) → asks_from c d ≡ true → AllByRecursion (λ q. is_of n q ≡ false) (kp ++ rest)
    → Terms c k kp rest x → Terms c (d ∷ k) (new d now (Opens (opening n d)) ∷ kp) rest (opening n d)
terms_open c k kp rest x d now n is fresh t = record {
  latest = record { request = d; there = contains_first d k; asks = is; same = refl };
  top = λ is_it. refl;
  unheard = λ top. ((λ off. absurd (false≢true (sym off))), fresh_others n (kp ++ rest) fresh);
  unspoken = λ none. (refl, t.unspoken (none_later c d k none));
  talked = λ o with first. ((λ y there. absurd (cc)), all_later c d k kp (t.talked o with.1 (begins_before c d k is first)));
}

none_begins : (c : Endpoint) (d : Recorded) → asks_from c d ≡ true → BeginsOacked c (d ∷ []) → ⊥
none_begins c d is first = let (e, options, found, spells) = begins_before c d [] is first in let both : None ≡ Some e = found in cc

pub terms_first : (c : Endpoint) (rest : List Placed) (d : Recorded) (now n : ℕ) → asks_from c d ≡ true → AllByRecursion (λ q. is_of n q ≡ false) rest → Terms c (d ∷ []) (new d now (Opens (opening n d)) ∷ []) rest (opening n d)
terms_first c rest d now n is fresh = record {
  latest = record { request = d; there = contains_first d []; asks = is; same = refl };
  top = λ is_it. refl;
  unheard = λ top. ((λ off. absurd (false≢true (sym off))), fresh_others n rest fresh);
  unspoken = λ none. (refl, tt);
  talked = λ o with first. absurd (none_begins c d is first);
}

pub terms_repeat_first : (c : Endpoint) (k : List Recorded) (q : Placed) (ps rest : List Placed) (x : Transfer) (d : Recorded) (now : ℕ) → is_request q ≡ true → is_again q.datagram d ≡ true → asks_from c d ≡ true
    → Terms c k (q ∷ ps) rest x → Terms c (d ∷ []) (new d now (Repeats x) ∷ []) (q ∷ ps ++ rest) x
terms_repeat_first c k q ps rest x d now request again is t = record {
  latest = record { request = d; there = contains_first d []; asks = is; same = t.top request ∙ again_window q.datagram d again };
  top = λ is_it. t.top request ∙ again_window q.datagram d again;
  unheard = λ top. ((λ off. absurd (false≢true (sym off))), t.unheard request);
  unspoken = λ none. (refl, tt);
  talked = λ o with first. absurd (none_begins c d is first);
}

-- ---- a talk

oack_answers : (payload : List ℕ) (options : OptionMap) → Spells payload (Message.Oack options) → (is_answer payload ≡ true) × (is_data_1 payload ≡ false)
oack_answers payload options says = (subst (λ l. is_answer l ≡ true) (sym says.1.bytes) refl, subst (λ l. is_data_1 l ≡ false) (sym says.1.bytes) refl)

first_found : (c : Endpoint) (k : List Recorded) → list_any (comes_at c) k ≡ true → (d : Recorded) × (first_of (comes_at c) k ≡ Some d)
first_found c [] any = absurd (false≢true any)
first_found c (e ∷ k) any = by (first_of (comes_at c) k) refl (λ later. first_found c k later) where
  by : (o : Option Recorded) → first_of (comes_at c) k ≡ o → (list_any (comes_at c) k ≡ true → (d : Recorded) × (first_of (comes_at c) k ≡ Some d)) → (d : Recorded) × (first_of (comes_at c) (e ∷ k) ≡ Some d)
  by (Some d) is more = (d, ap (λ o. or_this o (comes_at c e) e) is)
  by None is more = elim (or_cases (comes_at c e) (list_any (comes_at c) k) any) [
    | inl this ↦ (e, ap (λ o. or_this o (comes_at c e) e) is ∙ ap (λ b. or_this None b e) this)
    | inr later ↦ let found = more later in let both : None ≡ Some found.0 = sym is ∙ found.1 in absurd (cc)
  ]

none_found : (c : Endpoint) (k : List Recorded) → list_any (comes_at c) k ≡ false → first_of (comes_at c) k ≡ None
none_found c [] none = refl
none_found c (e ∷ k) none =
    let parts = or_parts (comes_at c e) (list_any (comes_at c) k) none in
    ap (λ o. or_this o (comes_at c e) e) (none_found c k parts.1) ∙ ap (λ b. or_this None b e) parts.0

chosen : (b : Bool) (x y z : Transfer) → (if b then Talks x else Talks y) ≡ Talks z → (x ≡ z) ⊎ (y ≡ z)
chosen true x y z is = inl cc
chosen false x y z is = inr cc

talked_as : (c o : Endpoint) (x z : Transfer) (a : Option Endpoint) (d : Recorded) (place : Place) (acked : Bool) → place_talked c o x a d (Some (record { transfer = talked_of place; acked_0 = acked })) ≡ Talks z
    → (x ≡ z) ⊎ (place ≡ Talks z)
talked_as c o x z a d (Talks y) acked is = elim (chosen _ x y z is) [ inl this ↦ inl this | inr that ↦ inr (ap Talks that) ]
talked_as c o x z a d _ acked is = absurd (cc)

-- what came was spoken with the one that all passed with
came_spoken : (c o : Endpoint) (ps : List Placed) → AllByRecursion (IsKnown c) ps → AreWith c o ps → list_any (comes_at c) (map (λ (q : Placed). q.datagram) ps) ≡ true → list_any (spoken c o) ps ≡ true
came_spoken c o [] known with any = absurd (false≢true any)
came_spoken c o (q ∷ ps) known with any = elim (or_cases (comes_at c q.datagram) (list_any (comes_at c) (map (λ (r : Placed). r.datagram) ps)) any) [
  | inl this ↦
      let plain : is_request q ≡ false = known.0.kind ∙ asks_none c q.datagram (from_none c q.datagram this) in
      or_left (spoken c o q) (list_any (spoken c o) ps) (spoken_other c o q known.0 plain (subst (λ e. same_endpoint e o ≡ true) (sym (with.0 plain)) (same_itself o)))
  | inr later ↦ or_right (spoken c o q) (list_any (spoken c o) ps) (came_spoken c o ps known.1 with.1 later)
]

requests_end : (ps : List Placed) → AllByRecursion (λ q. is_request q ≡ true) ps → ends_in_request ps ≡ true
requests_end [] all = refl
requests_end (q ∷ ps) all = all.0

requests_told : (c : Endpoint) (k : List Recorded) (ps : List Placed) → AllByRecursion (λ q. is_request q ≡ true) ps → AllByRecursion (HasTerms c k) ps
requests_told c k ps all = all_map (λ q. is_request q ≡ true) (HasTerms c k) (λ q request y there. absurd (false≢true (sym (no_request_talks q y there) ∙ request))) ps all

any_second : (f g : Recorded → Bool) (k : List Recorded) → list_any (λ e. f e && g e) k ≡ true → list_any g k ≡ true
any_second f g [] any = absurd (false≢true any)
any_second f g (e ∷ k) any = elim (or_cases (f e && g e) (list_any (λ r. f r && g r) k) any) [
  | inl this ↦ or_left (g e) (list_any g k) (and_parts (f e) (g e) this).1
  | inr later ↦ or_right (g e) (list_any g k) (any_second f g k later)
]

module _ (c : Endpoint) (k : List Recorded) (older kp rest : List Placed) (x y : Transfer) (d : Recorded) (now : ℕ) (has : Has c k older kp rest x) (follows : Follows c k d) (off : asks_from c d ≡ false)
    (place : place_at c (other_of c d) (kp ++ rest) d ≡ Talks y) where
  plain_off : goes_from c d ≡ true → begins_request d.payload ≡ false
  plain_off from = by_test (begins_request d.payload) (λ is. absurd (false≢true (sym off ∙ and_from (goes_from c d) (begins_request d.payload) from is))) (λ none. none)

  heard : list_any (comes_at c) (d ∷ k) ≡ false → ⊥
  heard none =
      let parts = or_parts (comes_at c d) (list_any (comes_at c) k) none in
      by_test (goes_from c d)
      (λ from. false≢true (sym parts.1 ∙ any_second (λ e. goes d.target c e) (comes_at c) k (follows.known from (plain_off from))))
      (λ came. false≢true (sym parts.0 ∙ ap not came))

  here : TermsOf c (d ∷ k) x
  here = terms_later c d k x has.terms.latest

  of_latest : x ≡ y → TermsOf c (d ∷ k) y
  of_latest same = subst (TermsOf c (d ∷ k)) same here

  module _ (o : Endpoint) (there : other_of c d ≡ o) (with : AreWith c o kp) where
    placed_there : place_at c o (kp ++ rest) d ≡ Talks y
    placed_there = subst (λ e. place_at c e (kp ++ rest) d ≡ Talks y) there place

    -- where something had come before
    talked_on : list_any (comes_at c) k ≡ true → AllByRecursion (HasTerms c k) kp → TermsOf c (d ∷ k) y
    talked_on any told = by (newest_of (spoken c o) kp) refl where
      spoke : list_any (spoken c o) kp ≡ true
      spoke = came_spoken c o kp has.known with (subst (λ l. list_any (comes_at c) l ≡ true) (sym has.are) any)

      by : (found : Option Placed) → newest_of (spoken c o) kp ≡ found → TermsOf c (d ∷ k) y
      by None none = absurd (false≢true (sym (newest_some (spoken c o) kp none) ∙ spoke))
      by (Some q) found =
          let (terms, tested) = newest_all (HasTerms c k) (spoken c o) kp q told found in
          let whole : newest_of (spoken c o) (kp ++ rest) ≡ Some q = newest_first (spoken c o) kp rest spoke ∙ found in
          let said : place_talked c o x (answered_in x (kp ++ rest)) d (Some (record { transfer = talked_of q.place; acked_0 = last_was_ack_0 c o (kp ++ rest) })) ≡ Talks y =
          sym (place_some c o (kp ++ rest) d x has.latest ∙ ap (place_talked c o x (answered_in x (kp ++ rest)) d) (talk_found c o (kp ++ rest) q whole)) ∙ placed_there in
          elim (talked_as c o x y (answered_in x (kp ++ rest)) d q.place (last_was_ack_0 c o (kp ++ rest)) said) [
            | inl this ↦ of_latest this
            | inr that ↦ terms_later c d k y (terms y that)
          ]

    -- the first that came is an OACK
    talked_first : list_any (comes_at c) k ≡ false → (options : OptionMap) → Spells d.payload (Message.Oack options) → comes_at c d ≡ true → TermsOf c (d ∷ k) y
    talked_first none options says came = by (newest_of (spoken c o) (kp ++ rest)) refl where
      others : AllByRecursion (OthersOf x.number) (kp ++ rest)
      others = has.terms.unheard (requests_end kp (has.terms.unspoken none))

      goes_there : goes o c d ≡ true
      goes_there = subst (λ e. goes e c d ≡ true) there (comes_to_it c d (from_none c d came) follows.here)

      same_one : Talks x ≡ Talks y → TermsOf c (d ∷ k) y
      same_one both = let same : x ≡ y = cc in of_latest same

      talk : (q : Placed) → newest_of (spoken c o) (kp ++ rest) ≡ Some q → is_request q ≡ false → IsPlain c q → TermsOf c (d ∷ k) y
      talk q found plain (asked z request is) = absurd (false≢true (sym plain ∙ request))
      talk q found plain (talks z is client) =
          let answer = oack_answers d.payload options says in
          let chosen_x = place_unanswered c o (kp ++ rest) d x z q has.latest found is (unanswered x (kp ++ rest) others)
          ∙ ap (λ b. if b && not (is_data_1 d.payload && last_was_ack_0 c o (kp ++ rest)) then Talks x else Talks z) (and_from (goes o c d) (is_answer d.payload) goes_there answer.0)
          ∙ ap (λ b. if not (b && last_was_ack_0 c o (kp ++ rest)) then Talks x else Talks z) answer.1 in
          same_one (sym chosen_x ∙ placed_there)

      by : (found : Option Placed) → newest_of (spoken c o) (kp ++ rest) ≡ found → TermsOf c (d ∷ k) y
      by None nobody = same_one (sym (place_new c o (kp ++ rest) d x has.latest nobody (from_none c d came)) ∙ placed_there)
      by (Some q) found =
          let (plain, spoke) = newest_all (IsPlain c) (spoken c o) (kp ++ rest) q has.plain found in
          let parts = and_parts (not (is_request q)) (is_between c o q.datagram) spoke in
          talk q found (by_test (is_request q) (λ t. absurd (false≢true (sym (ap not t) ∙ parts.0))) (λ f. f)) plain

  told : (o : Endpoint) → AreWith c o (new d now (Talks y) ∷ kp) → BeginsOacked c (d ∷ k) → AllByRecursion (HasTerms c (d ∷ k)) (new d now (Talks y) ∷ kp)
  told o with (e, options, first, says) = by_test (list_any (comes_at c) k) before now_first where
    this : TermsOf c (d ∷ k) y → HasTerms c (d ∷ k) (new d now (Talks y))
    this terms z at = let same : y ≡ z = cc in subst (TermsOf c (d ∷ k)) same terms

    before : list_any (comes_at c) k ≡ true → AllByRecursion (HasTerms c (d ∷ k)) (new d now (Talks y) ∷ kp)
    before any =
        let (f, found) = first_found c k any in
        let both : Some f ≡ Some e = sym (ap (λ r. or_this r (comes_at c d) d) found) ∙ first in
        let same : f ≡ e = cc in
        let before_all = has.terms.talked o with.1 (e, options, found ∙ ap Some same, says) in
        (this (talked_on o (with.0 refl) with.1 any before_all), all_later c d k kp before_all)

    now_first : list_any (comes_at c) k ≡ false → AllByRecursion (HasTerms c (d ∷ k)) (new d now (Talks y) ∷ kp)
    now_first none =
        let found : or_this None (comes_at c d) d ≡ Some e = sym (ap (λ r. or_this r (comes_at c d) d) (none_found c k none)) ∙ first in
        let same : d ≡ e = or_new (comes_at c d) d e found in
        let came : comes_at c d ≡ true = by_test (comes_at c d) (λ is. is) (λ not_it. let wrong : None ≡ Some e = sym (ap (λ b. or_this None b d) not_it) ∙ found in absurd (cc)) in
        (this (talked_first o (with.0 refl) with.1 none options (subst (λ (r : Recorded). Spells r.payload (Message.Oack options)) (sym same) says) came), requests_told c (d ∷ k) kp (has.terms.unspoken none))

  pub terms_talk : Terms c (d ∷ k) (new d now (Talks y) ∷ kp) rest x
  terms_talk = record {
    latest = here;
    top = λ is. absurd (false≢true is);
    unheard = λ top. absurd (false≢true top);
    unspoken = λ none. absurd (heard none);
    talked = told;
  }
