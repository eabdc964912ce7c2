-- A transfer that is not doubtful is talked of with one endpoint, as long as the recording is.
use Rattle.std.proofs.Common.{◌≡◌, ◌⊎◌, ℕ, Bool, true, false, List, [], ◌∷◌, ◌++◌, Option, Some, None, inl, inr, refl, sym, ap, subst, ◌∙◌, ◌==◌, ◌&&◌, not, filter, length, if◌then◌else◌}
use Rattle.std.specs.List.{list_any, AllByRecursion}
use Rattle.std.proofs.lemmas.Bool.{false≢true, or_cases, or_left, or_right, and_from, and_parts, eq-eqb, eqb-true}
use Rattle.audit_flows.specs.Lines.{Recorded, Placed, same_endpoint, begins_request, is_between, is_again, is_apart, other_of, is_of, is_request, newest_of, live, line, latest_in, answered_in, talked_of, talk_in, last_was_ack_0, place_talked, place_at, opened_by, asked_after}
use Rattle.audit_flows.specs.{Address, Endpoint, Place, Repeats, Talks, Apart, Nowhere, Transfer}
use Rattle.audit_flows.proofs.LinesLemmas.Endpoints.{is_same, same_itself}
use Rattle.audit_flows.proofs.LinesLemmas.Lines.{by_test}
use Rattle.audit_flows.specs.Transfers.{asks, at_client, beside, beside_by, is_nowhere, place_of, served_at, client_view, comes}
use Rattle.audit_flows.proofs.TransfersLemmas.AllLines.{line_here}
use Rattle.audit_flows.proofs.TransfersLemmas.Ends.{spoken, asked_as, asked_place, opened, again, either_is, place_said, lived_at, IsSaidAt, said, silent}
use Rattle.audit_spared.specs.Spared.Seen.{is_with}
use Rattle.audit_spared.specs.Spared.{is_doubted_there, comes_at, goes_from}
use Rattle.audit_spared.proofs.SparedLemmas.Basics.{doubted_more, all_and, all_first, any_append, newest_all}
use Rattle.audit_spared.proofs.SparedLemmas.Lists.{any_filter, passing}
use Rattle.audit_spared.proofs.SparedLemmas.Stands.{new, IsPlain, talks, State, doubted, asking, waiting, misled, answered, reopened, taken, mixed, Reopened, Taken, AreWith, Asking, Answered, Same, IsKnown, Has}
use Rattle.audit_spared.proofs.SparedLemmas.Stands.IsPlain.{asks as asked}
use Rattle.audit_spared.proofs.SparedLemmas.Places.{of_talk, no_request_talks, place_some, talk_found, talk_none, other_is, comes_to_it, from_none}
use Rattle.audit_spared.proofs.SparedLemmas.Talks.{any_map, filter_told}
use Rattle.audit_spared.proofs.SparedLemmas.Requests.{all_filter, all_second}
use Rattle.audit_spared.proofs.SparedLemmas.Recordings.{line_all, live_all}
use Rattle.audit_spared.proofs.SparedLemmas.Bottoms.{filter_whole}
use Rattle.audit_spared.proofs.SparedLemmas.Spared.{rest_same}
use Rattle.audit_spared.proofs.SparedLemmas.ServedLaw.{IsServed, answers_served}
use Rattle.audit_spared.proofs.SparedLemmas.ServedViews.{all_own, with_whom}

-- ---- what is talked of another transfer than the latest was talked of so with the same endpoint before

chosen : (b : Bool) (x y z : Transfer) → (if b then Talks x else Talks y) ≡ Talks z → (x ≡ z) ⊎ (y ≡ z)
chosen true x y z is = inl cc
chosen false x y z is = inr cc

first_talk : (b : Bool) (c : Endpoint) (x z : Transfer) → (if b then Apart c else Talks x) ≡ Talks z → x ≡ z
first_talk true c x z is = absurd (cc)
first_talk false c x z is = cc

talked_as : (c o : Endpoint) (x z : Transfer) (a : Option Endpoint) (d : Recorded) (place : Place) (acked : Bool) → place_talked c o x a d (Some (record { transfer = talked_of place; acked_0 = acked })) ≡ Talks z
    → (x ≡ z) ⊎ (place ≡ Talks z)
talked_as c o x z a d (Talks y) acked is = elim (chosen _ x y z is) [ inl this ↦ inl this | inr that ↦ inr (ap Talks that) ]
talked_as c o x z a d _ acked is = absurd (cc)

other_number : (x z : Transfer) → (x.number == z.number) ≡ false → x ≡ z → ⊥
other_number x z off is = false≢true (sym off ∙ eq-eqb x.number z.number (ap (λ (t : Transfer). t.number) is))

place_before : (c o : Endpoint) (ps : List Placed) (d : Recorded) (x z : Transfer) → latest_in ps ≡ Some x → (x.number == z.number) ≡ false → place_at c o ps d ≡ Talks z
    → (q : Placed) × (newest_of (spoken c o) ps ≡ Some q) × (q.place ≡ Talks z)
place_before c o ps d x z latest off is = by (newest_of (spoken c o) ps) refl where
  there : place_talked c o x (answered_in x ps) d (talk_in c o ps) ≡ Talks z
  there = sym (place_some c o ps d x latest) ∙ is

  by : (found : Option Placed) → newest_of (spoken c o) ps ≡ found → (q : Placed) × (newest_of (spoken c o) ps ≡ Some q) × (q.place ≡ Talks z)
  by None none = absurd (other_number x z off (first_talk _ c x z (sym (ap (place_talked c o x (answered_in x ps) d) (talk_none c o ps none)) ∙ there)))
  by (Some q) found = elim (talked_as c o x z (answered_in x ps) d q.place (last_was_ack_0 c o ps) (sym (ap (place_talked c o x (answered_in x ps) d) (talk_found c o ps q found)) ∙ there)) [
    | inl this ↦ absurd (other_number x z off this)
    | inr that ↦ (q, found, that)
  ]

-- ---- a talk was placed by the line of its client

asked_no_talk : (older : List Placed) (now : ℕ) (d : Recorded) (z : Transfer) → asked_place older now d ≡ Talks z → ⊥
asked_no_talk older now d z is = by (newest_of (λ p. not (is_apart p)) (live now (line d.source older))) refl where
  by : (found : Option Placed) → newest_of (λ p. not (is_apart p)) (live now (line d.source older)) ≡ found → ⊥
  by None none = let both : opened_by (length older) d ≡ Talks z = rw none at is in absurd (cc)
  by (Some p) found =
      let at : asked_after (opened_by (length older) d) p.place (is_again p.datagram d) ≡ Talks z = rw found at is in
      elim (asked_as p.place (is_again p.datagram d) (length older) d) [
        | opened e ↦ let both : opened_by (length older) d ≡ Talks z = sym e ∙ at in absurd (cc)
        | again y e of ↦ let both : Repeats y ≡ Talks z = sym e ∙ at in absurd (cc)
      ]

beside_no_talk : (one other : Option Transfer) (z : Transfer) → beside_by one other ≡ Talks z → ⊥
beside_no_talk (Some y) other z is = absurd (cc)
beside_no_talk None (Some y) z is = absurd (cc)
beside_no_talk None None z is = absurd (cc)

at_client_is : (older : List Placed) (now : ℕ) (d : Recorded) (z : Transfer) → place_of [] older now d ≡ Talks z → at_client older now d ≡ Talks z
at_client_is older now d z is = by_test (asks [] older now d)
    (λ asked. absurd (asked_no_talk older now d z (sym (ap (λ b. if b then asked_place older now d else if is_nowhere (at_client older now d) then beside [] older now d else at_client older now d) asked) ∙ is)))
    (λ off.
    let there : (if is_nowhere (at_client older now d) then beside [] older now d else at_client older now d) ≡ Talks z =
    sym (ap (λ b. if b then asked_place older now d else if is_nowhere (at_client older now d) then beside [] older now d else at_client older now d) off) ∙ is in
    by_test (is_nowhere (at_client older now d))
    (λ none. absurd (beside_no_talk (served_at [] older now d.source) (served_at [] older now d.target) z
    (sym (ap (λ b. if b then beside [] older now d else at_client older now d) none) ∙ there)))
    (λ some. sym (ap (λ b. if b then beside [] older now d else at_client older now d) some) ∙ there))

said_client : (c : Endpoint) (ps : List Placed) (place : Place) (z : Transfer) → IsSaidAt c ps place → place ≡ Talks z → z.client ≡ c
said_client c ps place z (said some talk) is = talk.talks z is
said_client c ps place z (silent none) is = let both : Nowhere ≡ Talks z = sym none ∙ is in absurd (cc)

module _ (c : Endpoint) (older : List Placed) (now : ℕ) (d : Recorded) (z : Transfer) (client : z.client ≡ c) where
  abbrev there : Endpoint → Endpoint → Place
  there e o = place_at e o (live now (line e older)) d

  at_source : there d.source d.target ≡ Talks z → there c (other_of c d) ≡ Talks z
  at_source is =
      let source : d.source ≡ c = sym (said_client d.source (live now (line d.source older)) (there d.source d.target) z (place_said d.source d.target (live now (line d.source older)) d (lived_at d.source now older)) is) ∙ client in
      let from : same_endpoint d.source c ≡ true = subst (λ e. same_endpoint d.source e ≡ true) source (same_itself d.source) in
      ap (there c) (ap (λ b. if b then d.target else d.source) from) ∙ ap (λ e. there e d.target) (sym source) ∙ is

  at_target : there d.target d.source ≡ Talks z → there c (other_of c d) ≡ Talks z
  at_target is =
      let target : d.target ≡ c = sym (said_client d.target (live now (line d.target older)) (there d.target d.source) z (place_said d.target d.source (live now (line d.target older)) d (lived_at d.target now older)) is) ∙ client in
      let other : other_of c d ≡ d.source = by_test (same_endpoint d.source c)
      (λ from. ap (λ b. if b then d.target else d.source) from ∙ target ∙ sym (is_same d.source c from))
      (λ off. ap (λ b. if b then d.target else d.source) off) in
      ap (there c) other ∙ ap (λ e. there e d.source) (sym target) ∙ is

  pub placed_by_line : place_of [] older now d ≡ Talks z → there c (other_of c d) ≡ Talks z
  placed_by_line is =
      let at = at_client_is older now d z is in
      elim (either_is (there d.source d.target) (there d.target d.source)) [
        | inl one ↦ at_source (sym one ∙ at)
        | inr two ↦ at_target (sym two ∙ at)
      ]

-- ---- a transfer is talked of with one endpoint

-- what is talked of the transfer passed with this endpoint
abbrev pub TalksWith : Endpoint → ℕ → Endpoint → Placed → Type 0
TalksWith c n o q = (y : Transfer) → q.place ≡ Talks y → (y.number == n) ≡ true → (y.client ≡ c) × (other_of c q.datagram ≡ o)

-- it is doubtful, or nothing is talked of it, or all that is passed with one endpoint, from which something came
pub data Told (c : Endpoint) (n : ℕ) (ps : List Placed) : Type 0 where
  doubtful : is_doubted_there n ps ≡ true → Told c n ps
  still : AllByRecursion (λ q. is_of n q ≡ true → is_request q ≡ true) ps → Told c n ps
  told : (o : Endpoint) → list_any (comes n) ps ≡ true → AllByRecursion (TalksWith c n o) ps → Told c n ps

pub told_none : (c : Endpoint) (n : ℕ) → Told c n []
told_none c n = still tt

pub told_more : (c : Endpoint) (n : ℕ) (p : Placed) (older : List Placed) → is_of n p ≡ false → Told c n older → Told c n (p ∷ older)
told_more c n p older off (doubtful is) = doubtful (doubted_more n p older is)
told_more c n p older off (still all) = still ((λ is. absurd (false≢true (sym off ∙ is))), all)
told_more c n p older off (told o came all) = told o (or_right (comes n p) (list_any (comes n) older) came) ((λ y at number. absurd (false≢true (sym off ∙ of_talk n p y at ∙ number))), all)

-- a request says nothing of it
told_asked : (c : Endpoint) (n : ℕ) (p : Placed) (older : List Placed) → is_request p ≡ true → Told c n older → Told c n (p ∷ older)
told_asked c n p older request (doubtful is) = doubtful (doubted_more n p older is)
told_asked c n p older request (still all) = still ((λ is. request), all)
told_asked c n p older request (told o came all) =
    told o (or_right (comes n p) (list_any (comes n) older) came) ((λ y at number. absurd (false≢true (sym (no_request_talks p y at) ∙ request))), all)

-- ---- in a transfer that was answered

one_comes : (c : Endpoint) (n : ℕ) (q : Placed) → IsKnown c q → IsPlain c q → is_of n q ≡ true → comes_at c q.datagram ≡ true → comes n q ≡ true
one_comes c n q known plain of came = by plain where
  off : goes_from c q.datagram ≡ false
  off = from_none c q.datagram came

  no_request : is_request q ≡ false
  no_request = known.kind ∙ ap (λ b. b && begins_request q.datagram.payload) off

  by : IsPlain c q → comes n q ≡ true
  by (asked z request at) = absurd (false≢true (sym no_request ∙ request))
  by (talks y at client) =
      let to : same_endpoint q.datagram.target c ≡ true = (and_parts (same_endpoint q.datagram.source (other_of c q.datagram)) (same_endpoint q.datagram.target c) (comes_to_it c q.datagram off known.here)).1 in
      subst (λ place. comes n (new q.datagram q.moment place) ≡ true) (sym at)
      (and_from (y.number == n) (same_endpoint q.datagram.target y.client) (sym (of_talk n q y at) ∙ of) (subst (λ e. same_endpoint q.datagram.target e ≡ true) (sym client) to))

any_comes : (c : Endpoint) (n : ℕ) (kp : List Placed) → AllByRecursion (IsKnown c) kp → AllByRecursion (IsPlain c) kp → AllByRecursion (λ q. is_of n q ≡ true) kp
    → list_any (λ q. comes_at c q.datagram) kp ≡ true → list_any (comes n) kp ≡ true
any_comes c n [] known plain own any = any
any_comes c n (q ∷ kp) known plain own any = elim (or_cases (comes_at c q.datagram) (list_any (λ p. comes_at c p.datagram) kp) any) [
  | inl this ↦ or_left (comes n q) (list_any (comes n) kp) (one_comes c n q known.0 plain.0 own.0 this)
  | inr later ↦ or_right (comes n q) (list_any (comes n) kp) (any_comes c n kp known.1 plain.1 own.1 later)
]

-- whatever is talked of a transfer of the client's, and passed with this endpoint
abbrev AnyTalk : Endpoint → Endpoint → Placed → Type 0
AnyTalk c o q = (y : Transfer) → q.place ≡ Talks y → (y.client ≡ c) × (other_of c q.datagram ≡ o)

plain_talk : (c o : Endpoint) (q : Placed) → IsPlain c q → (is_request q ≡ false → other_of c q.datagram ≡ o) → AnyTalk c o q
plain_talk c o q (asked z request at) with y here = absurd (false≢true (sym (no_request_talks q y here) ∙ request))
plain_talk c o q (talks z at client) with y here =
    let both : Talks z ≡ Talks y = sym at ∙ here in
    let same : z ≡ y = cc in
    (ap (λ (t : Transfer). t.client) (sym same) ∙ client, with (no_request_talks q y here))

plain_talks : (c o : Endpoint) (kp : List Placed) → AllByRecursion (IsPlain c) kp → AreWith c o kp → AllByRecursion (AnyTalk c o) kp
plain_talks c o [] plain all = tt
plain_talks c o (q ∷ kp) plain all = (plain_talk c o q plain.0 all.0, plain_talks c o kp plain.1 all.1)

module _ (c o : Endpoint) (k : List Recorded) (older kp rest : List Placed) (x : Transfer) (has : Has c k older kp rest x) (a : Answered c k older kp rest x) (all : AreWith c o kp) where
  plain : AllByRecursion (IsPlain c) kp
  plain = all_first (IsPlain c) kp rest has.plain

  view_is : client_view x.number older ≡ kp ++ a.asked.before
  view_is = a.asked.view ∙ ap (λ l. l ++ a.asked.before) (filter_whole x.number kp (all_own c o k older kp rest x a all))

  came : list_any (comes x.number) older ≡ true
  came = any_filter (comes x.number) (is_of x.number) older (subst (λ l. list_any (comes x.number) l ≡ true) (sym view_is)
      (any_append (comes x.number) kp a.asked.before
      (any_comes c x.number kp has.known plain (all_own c o k older kp rest x a all) (any_map c kp (subst (λ l. list_any (comes_at c) l ≡ true) (sym has.are) a.came)))))

  in_view : AllByRecursion (AnyTalk c o) (client_view x.number older)
  in_view = subst (AllByRecursion (AnyTalk c o)) (sym view_is) (all_and (AnyTalk c o) kp a.asked.before (plain_talks c o kp plain all)
      (all_second (λ q. (is_request q ≡ true) × Same q.datagram a.asked.r) (AnyTalk c o) (λ q same y at. absurd (false≢true (sym (no_request_talks q y at) ∙ same.0))) a.asked.before a.asked.repeated))

  pub answered_told : Told c x.number older
  answered_told = told o came (all_second (λ q. is_of x.number q ≡ true → AnyTalk c o q) (TalksWith c x.number o) (λ q any y at number. any (of_talk x.number q y at ∙ number) y at) older
      (passing (AnyTalk c o) (is_of x.number) older in_view))

-- ---- in one that is asked for

asking_told : (c : Endpoint) (k : List Recorded) (older kp rest : List Placed) (x : Transfer) → Asking c k older kp rest x → Told c x.number older
asking_told c k older kp rest x a =
    still (passing (λ q. is_request q ≡ true) (is_of x.number) older (subst (AllByRecursion (λ q. is_request q ≡ true)) (sym a.asked.view)
    (all_and (λ q. is_request q ≡ true) (filter (is_of x.number) kp) a.asked.before
    (all_filter (λ q. is_request q ≡ true) (is_of x.number) kp
    (all_second (λ q. (is_request q ≡ true) × (is_of x.number q ≡ true) × Same q.datagram a.asked.r) (λ q. is_request q ≡ true) (λ q own. own.0) kp a.own))
    (all_second (λ q. (is_request q ≡ true) × Same q.datagram a.asked.r) (λ q. is_request q ≡ true) (λ q same. same.0) a.asked.before a.asked.repeated))))

-- ---- in one that was opened by a late request

reopened_told : (c : Endpoint) (k : List Recorded) (older kp rest : List Placed) (x : Transfer) → Reopened c k older kp rest x → Told c x.number older
reopened_told c k older kp rest x a =
    still (passing (λ q. is_request q ≡ true) (is_of x.number) older (subst (AllByRecursion (λ q. is_request q ≡ true)) (sym a.asked.view)
    (all_and (λ q. is_request q ≡ true) (filter (is_of x.number) kp) a.asked.before
    (all_second (λ q. (is_request q ≡ true) × Same q.datagram a.asked.r) (λ q. is_request q ≡ true) (λ q same. same.0) (filter (is_of x.number) kp)
    (filter_told (λ q. (is_request q ≡ true) × Same q.datagram a.asked.r) (is_of x.number) kp a.same))
    (all_second (λ q. (is_request q ≡ true) × Same q.datagram a.asked.r) (λ q. is_request q ≡ true) (λ q same. same.0) a.asked.before a.asked.repeated))))

taken_told : (c o : Endpoint) (k : List Recorded) (older kp rest : List Placed) (x : Transfer) → Has c k older kp rest x → Taken c k older kp rest x → AreWith c o kp → Told c x.number older
taken_told c o k older kp rest x has a all =
    told o a.came (all_second (λ q. is_of x.number q ≡ true → AnyTalk c o q) (TalksWith c x.number o) (λ q any y at number. any (of_talk x.number q y at ∙ number) y at) older
    (passing (AnyTalk c o) (is_of x.number) older (subst (AllByRecursion (AnyTalk c o)) (sym a.asked.view)
    (all_and (AnyTalk c o) (filter (is_of x.number) kp) a.asked.before
    (all_filter (AnyTalk c o) (is_of x.number) kp (plain_talks c o kp (all_first (IsPlain c) kp rest has.plain) all))
    (all_second (λ q. (is_request q ≡ true) × Same q.datagram a.asked.r) (AnyTalk c o) (λ q same y at. absurd (false≢true (sym (no_request_talks q y at) ∙ same.0))) a.asked.before a.asked.repeated)))))

-- ---- in an earlier one

module _ (c : Endpoint) (k : List Recorded) (older kp rest : List Placed) (x z : Transfer) (d : Recorded) (now : ℕ) (has : Has c k (new d now (Talks z) ∷ older) (new d now (Talks z) ∷ kp) rest x)
    (client : z.client ≡ c) (off : (x.number == z.number) ≡ false) (at : Talks z ≡ place_of [] older now d) where
  abbrev ps : List Placed
  ps = live now (line c older)

  lived : ps ≡ kp ++ rest
  lived = rest_same (new d now (Talks z)) ps (kp ++ rest)
      (sym (line_here c (new d now (Talks z)) older (ap (λ e. same_endpoint e c) client ∙ same_itself c)) ∙ has.whole)

  before : (q : Placed) × (newest_of (spoken c (other_of c d)) ps ≡ Some q) × (q.place ≡ Talks z)
  before = place_before c (other_of c d) ps d x z (ap latest_in lived ∙ has.latest) off (placed_by_line c older now d z client (sym at))

  found : (P : Placed → Type 0) → AllByRecursion P older → P before.0 × (spoken c (other_of c d) before.0 ≡ true)
  found P all = newest_all P (spoken c (other_of c d)) ps before.0 (live_all P now (line c older) (line_all P c older all)) before.1

  late_told : Told c z.number older → Told c z.number (new d now (Talks z) ∷ older)
  late_told (doubtful is) = doubtful (doubted_more z.number (new d now (Talks z)) older is)
  late_told (still all) =
      let (asks_there, spoke) = found (λ q. is_of z.number q ≡ true → is_request q ≡ true) all in
      absurd (false≢true (sym (no_request_talks before.0 z before.2) ∙ asks_there (of_talk z.number before.0 z before.2 ∙ eq-eqb z.number z.number refl)))
  late_told (told o came all) =
      let (with, spoke) = found (TalksWith c z.number o) all in
      let here = (with z before.2 (eq-eqb z.number z.number refl)).1 in
      let between = (and_parts (not (is_request before.0)) (is_between c (other_of c d) before.0.datagram) spoke).1 in
      told o (or_right (comes z.number (new d now (Talks z))) (list_any (comes z.number) older) came) (
        λ y is number.
            let same : z ≡ y = cc in
            (ap (λ (t : Transfer). t.client) (sym same) ∙ client, sym (other_is c (other_of c d) before.0.datagram between) ∙ here),
        all,
      )

-- ---- so after each datagram

module _ (Late : Type 0) (write : Address → List ℕ) (host : Address) (c : Endpoint) where
  pub told_one : (n : ℕ) (k : List Recorded) (older kp rest : List Placed) (x : Transfer) (d : Recorded) (now : ℕ) (place : Place) → is_with c d ≡ true → place ≡ place_of [] older now d
      → Has c k (new d now place ∷ older) (new d now place ∷ kp) rest x → IsServed Late write host c k → is_of n (new d now place) ≡ true → Told c n older → Told c n (new d now place ∷ older)
  told_one n k older kp rest x d now place with at has served of before = by has.plain.0 where
    own : Told c x.number (new d now place ∷ older)
    own = state has.state where
      whom : (o : Endpoint) × AreWith c o (new d now place ∷ kp)
      whom = with_whom write host c Late k (new d now place ∷ older) (new d now place ∷ kp) rest x has served

      state : State c k (new d now place ∷ older) (new d now place ∷ kp) rest x → Told c x.number (new d now place ∷ older)
      state (doubted is) = doubtful is
      state (answered a) = answered_told c whom.0 k (new d now place ∷ older) (new d now place ∷ kp) rest x has a whom.1
      state (asking a) = asking_told c k (new d now place ∷ older) (new d now place ∷ kp) rest x a
      state (waiting a) = absurd (a.strayed (answers_served write host c Late k served))
      state (misled a) = absurd (a.strayed (answers_served write host c Late k served))
      state (reopened a) = reopened_told c k (new d now place ∷ older) (new d now place ∷ kp) rest x a
      state (taken a) = taken_told c whom.0 k (new d now place ∷ older) (new d now place ∷ kp) rest x has a whom.1
      state (mixed a) = absurd (a.mixed whom.0 whom.1)

    number : (z : Transfer) → place ≡ Talks z → z.number ≡ n
    number z here = eqb-true z.number n (sym (of_talk n (new d now place) z here) ∙ of)

    by : IsPlain c (new d now place) → Told c n (new d now place ∷ older)
    by (asked z request here) = told_asked c n (new d now place) older request before
    by (talks z here client) = by_test (x.number == z.number)
        (λ is. subst (λ i. Told c i (new d now place ∷ older)) (eqb-true x.number z.number is ∙ number z here) own)
        (λ off. subst (λ i. Told c i (new d now place ∷ older)) (number z here)
        (subst (λ p. Told c z.number (new d now p ∷ older)) (sym here)
        (late_told c k older kp rest x z d now (subst (λ p. Has c k (new d now p ∷ older) (new d now p ∷ kp) rest x) here has) client off (sym here ∙ at)
        (subst (λ i. Told c i older) (sym (number z here)) before))))
