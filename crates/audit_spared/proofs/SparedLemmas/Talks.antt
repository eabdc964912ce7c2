-- A client's line with one datagram more of the same capture, which is no request.
use Rattle.std.proofs.Common.{◌≡◌, ◌≢◌, ℕ, Bool, true, false, List, [], ◌∷◌, ◌++◌, Option, Some, None, inl, inr, refl, sym, ap, subst, ◌∙◌, ◌==◌, ◌&&◌, ◌||◌, not, map, if◌then◌else◌}
use Rattle.std.specs.List.{list_any, AllByRecursion, filter}
use Rattle.std.proofs.lemmas.Bool.{false≢true, or_cases, or_parts, or_left, or_right, and_from, and_parts, eq-eqb, eqb-true}
use Rattle.law_model.specs.Rules.{first_of, or_this}
use Rattle.audit_flows.specs.Lines.{Recorded, Placed, same_endpoint, is_between, other_of, is_of, is_request, newest_of, reach, live, line, says_more, begins_request, begins_error, goes, last_was_ack_0, answers, answered_in, latest_in, place_at, is_another, may_be_answer_of, may_answer, talk_in}
use Rattle.audit_flows.specs.{Endpoint, Place, Talks, Transfer}
use Rattle.audit_flows.specs.Lines.Recording.{is_answer, is_data_1}
use Rattle.audit_flows.specs.Lines.Doubting.{acked_0_in, answer_of, is_next_data}
use Rattle.audit_flows.specs.Transfers.{client_view, comes, is_it}
use Rattle.law_model.proofs.ModelLemmas.Members.{contains_later}
use Rattle.audit_flows.proofs.LinesLemmas.Endpoints.{is_same, same_itself}
use Rattle.audit_flows.proofs.LinesLemmas.Lines.{by_test, answered_more}
use Rattle.audit_flows.proofs.TransfersLemmas.AllLines.{line_here}
use Rattle.audit_flows.proofs.TransfersLemmas.Ends.{spoken}
use Rattle.audit_spared.proofs.FairLemmas.Thinned.{filter_kept, filter_dropped, kept_or_not}
use Rattle.audit_spared.specs.Spared.{AnswersFirst, Follows, asks_from, comes_at, goes_from, goes_on_from}
use Rattle.audit_spared.proofs.SparedLemmas.Basics.{some_or, doubted_more, doubted_apart, all_and, all_first, all_last, all_map, newest_all, newest_first, newest_some, any_append}
use Rattle.audit_spared.proofs.SparedLemmas.Places.{of_talk, talk_found, place_new, place_old, place_unanswered, heard_before, spoken_other, other_is, comes_to_it, from_none}
use Rattle.audit_spared.proofs.SparedLemmas.Terms.{terms_talk, unanswered}
use Rattle.audit_spared.proofs.SparedLemmas.Stands.{new, IsPlain, asks, talks, Same, Bottom, OthersOf, AskedBefore, Asking, Answered, State, doubted, asking, waiting, misled, answered, reopened, taken, mixed, Reopened, Taken, AreWith, Terms, talks_apart, goes_on_apart, IsKnown, Has, came_in, came_from, IsNoAnswer, IsHeard, Unanswered, Opened, Misled}

-- no request goes from the client
pub no_begin : (c : Endpoint) (d : Recorded) → asks_from c d ≡ false → goes_from c d ≡ true → begins_request d.payload ≡ false
no_begin c d off from = by_test (begins_request d.payload)
    (λ is. absurd (false≢true (sym off ∙ and_from (goes_from c d) (begins_request d.payload) from is)))
    (λ none. none)

said_more : (c : Endpoint) (y : Transfer) (d : Recorded) (now : ℕ) → y.client ≡ c → asks_from c d ≡ false → says_more (new d now (Talks y)) ≡ true → goes_on_from c d ≡ true
said_more c y d now client off says =
    let parts = and_parts (same_endpoint d.source y.client) (not (begins_error d.payload)) says in
    let from : goes_from c d ≡ true = subst (λ e. same_endpoint d.source e ≡ true) client parts.0 in
    ap (λ b. if b then false else (goes_from c d && not (begins_error d.payload))) (no_begin c d off from)
    ∙ and_from (goes_from c d) (not (begins_error d.payload)) from parts.1

-- whatever the state, the rest goes on
pub talk_has : (c : Endpoint) (k : List Recorded) (older kp rest : List Placed) (x y : Transfer) (d : Recorded) (now : ℕ) → Has c k older kp rest x → y.client ≡ c
    → asks_from c d ≡ false → is_between c (other_of c d) d ≡ true → live now (line c older) ≡ line c older
    → Terms c (d ∷ k) (new d now (Talks y) ∷ kp) rest x → State c (d ∷ k) (new d now (Talks y) ∷ older) (new d now (Talks y) ∷ kp) rest x
    → Has c (d ∷ k) (new d now (Talks y) ∷ older) (new d now (Talks y) ∷ kp) rest x
talk_has c k older kp rest x y d now has client off here lived terms state = record {
  whole = line_here c (new d now (Talks y)) older (ap (λ e. same_endpoint e c) client ∙ same_itself c) ∙ ap (λ l. new d now (Talks y) ∷ l) (lived ∙ has.whole);
  some = λ none. absurd (cc);
  are = ap (λ l. d ∷ l) has.are;
  known = (record { kind = sym off; here = here }, has.known);
  plain = (talks y refl client, has.plain);
  latest = has.latest;
  client = has.client;
  top = λ is. absurd (false≢true is);
  pure = λ top. absurd (false≢true top);
  more = some_or (says_more (new d now (Talks y))) (list_any says_more (reach (kp ++ rest))) (goes_on_from c d) (list_any (goes_on_from c) k) (said_more c y d now client off) has.more;
  alike = λ e all. has.alike e all.1;
  terms = terms;
  state = state;
}

-- ---- in a transfer that was answered

all_both : {X : Type 0} (P Q : X → Type 0) (xs : List X) → AllByRecursion P xs → AllByRecursion Q xs → AllByRecursion (λ x. P x × Q x) xs
all_both P Q [] one other = tt
all_both P Q (x ∷ xs) one other = ((one.0, other.0), all_both P Q xs one.1 other.1)

pub any_first_part : {X : Type 0} (f g : X → Bool) (xs : List X) → list_any (λ x. f x && g x) xs ≡ true → list_any g xs ≡ true
any_first_part f g [] any = absurd (false≢true any)
any_first_part f g (x ∷ xs) any = elim (or_cases (f x && g x) (list_any (λ y. f y && g y) xs) any) [
  | inl is ↦ or_left (g x) (list_any g xs) (and_parts (f x) (g x) is).1
  | inr later ↦ or_right (g x) (list_any g xs) (any_first_part f g xs later)
]

pub first_some : (test : Placed → Bool) (ps : List Placed) → list_any test ps ≡ true → (q : Placed) × (first_of test ps ≡ Some q)
first_some test [] any = absurd (false≢true any)
first_some test (p ∷ ps) any = by (first_of test ps) refl (λ later. first_some test ps later) where
  by : (o : Option Placed) → first_of test ps ≡ o → (list_any test ps ≡ true → (q : Placed) × (first_of test ps ≡ Some q)) → (q : Placed) × (first_of test (p ∷ ps) ≡ Some q)
  by (Some q) is more = (q, ap (λ o. or_this o (test p) p) is)
  by None is more = elim (or_cases (test p) (list_any test ps) any) [
    | inl this ↦ (p, ap (λ o. or_this o (test p) p) is ∙ ap (λ b. or_this None b p) this)
    | inr later ↦ let found = more later in let both : None ≡ Some found.0 = sym is ∙ found.1 in absurd (cc)
  ]

pub any_map : (c : Endpoint) (ps : List Placed) → list_any (comes_at c) (map (λ p. p.datagram) ps) ≡ true → list_any (λ p. comes_at c p.datagram) ps ≡ true
any_map c [] any = any
any_map c (p ∷ ps) any = some_or (comes_at c p.datagram) (list_any (comes_at c) (map (λ q. q.datagram) ps)) (comes_at c p.datagram) (list_any (λ q. comes_at c q.datagram) ps) (λ is. is) (any_map c ps) any

bottom_more : (r : Recorded) (n : ℕ) (p : Placed) (kp : List Placed) → Bottom r n kp → Bottom r n (p ∷ kp)
bottom_more r n p [] is = absurd is
bottom_more r n p (q ∷ ps) is = is

abbrev pub asked_more : (older kp : List Placed) (n : ℕ) (p : Placed) → AskedBefore older kp n → AskedBefore (p ∷ older) (p ∷ kp) n
asked_more older kp n p asked = record {
  r = asked.r;
  before = asked.before;
  view = by_test (is_of n p)
      (λ is. filter_kept (is_of n) p older is ∙ ap (λ l. p ∷ l) asked.view ∙ sym (ap (λ l. l ++ asked.before) (filter_kept (is_of n) p kp is)))
      (λ off. filter_dropped (is_of n) p older off ∙ asked.view ∙ sym (ap (λ l. l ++ asked.before) (filter_dropped (is_of n) p kp off)));
  repeated = asked.repeated;
}

-- ---- the first of a transfer that came

first_more : (test : Placed → Bool) (ps : List Placed) (p q : Placed) → first_of test ps ≡ Some q → first_of test (p ∷ ps) ≡ Some q
first_more test ps p q found = ap (λ o. or_this o (test p) p) found

pub view_first : (n : ℕ) (p q : Placed) (older : List Placed) → first_of came_in (client_view n older) ≡ Some q → first_of came_in (client_view n (p ∷ older)) ≡ Some q
view_first n p q older found = kept_or_not (is_of n) p
    (λ is. ap (first_of came_in) (filter_kept (is_of n) p older is) ∙ first_more came_in (client_view n older) p q found)
    (λ off. ap (first_of came_in) (filter_dropped (is_of n) p older off) ∙ found)

abbrev pub opened_more : (c : Endpoint) (older kp : List Placed) (n : ℕ) (p : Placed) → Opened c older kp n → Opened c (p ∷ older) (p ∷ kp) n
opened_more c older kp n p a = record {
  opener = a.opener;
  view = view_first n p a.opener older a.view;
  newer = p ∷ a.newer;
  early = a.early;
  split = ap (λ l. p ∷ l) a.split;
  from = a.from;
  silent = a.silent;
  others = a.others;
}

-- whom it is talked with
pub record TalksOn (c : Endpoint) (kp : List Placed) (n : ℕ) (server o : Endpoint) (y : Transfer) : Type 0 where
  pub talked : Endpoint → Bool
  pub now : (y.number == n) ≡ talked o
  pub before : AllByRecursion (λ q. is_request q ≡ false → is_of n q ≡ talked (other_of c q.datagram)) kp
  pub with_server : talked server ≡ true

answered_on : (c : Endpoint) (k : List Recorded) (older kp rest : List Placed) (x y : Transfer) (d : Recorded) (now : ℕ) → Has c k older kp rest x → (a : Answered c k older kp rest x)
    → TalksOn c kp x.number a.server (other_of c d) y → Answered c (d ∷ k) (new d now (Talks y) ∷ older) (new d now (Talks y) ∷ kp) rest x
answered_on c k older kp rest x y d now has a on = record {
  came = or_right (comes_at c d) (list_any (comes_at c) k) a.came;
  asked = asked_more older kp x.number (new d now (Talks y)) a.asked;
  bottom = bottom_more a.asked.r x.number (new d now (Talks y)) kp a.bottom;
  by = a.by;
  answered = answered_more x (new d now (Talks y)) (kp ++ rest) refl ∙ ap (λ o. or_this o (answers x (new d now (Talks y))) d.source) a.answered;
  ends = refl;
  talked = on.talked;
  requests = (λ is. absurd (false≢true is), a.requests);
  talks = (λ plain. on.now, on.before);
  others = a.others;
  server = a.server;
  is_talked = on.with_server;
  serves = or_right (spoken c a.server (new d now (Talks y))) (list_any (spoken c a.server) kp) a.serves;
  opened = opened_more c older kp x.number (new d now (Talks y)) a.opened;
  first = a.first;
  by_server = a.by_server;
}

-- it was talked with it before
known_on : (c : Endpoint) (k : List Recorded) (older kp rest : List Placed) (x : Transfer) (d : Recorded) → Has c k older kp rest x → (a : Answered c k older kp rest x)
    → list_any (spoken c (other_of c d)) kp ≡ true
    → (y : Transfer) × (y.client ≡ c) × (place_at c (other_of c d) (kp ++ rest) d ≡ Talks y) × TalksOn c kp x.number a.server (other_of c d) y
known_on c k older kp rest x d has a any = by (newest_of (spoken c o) kp) refl where
  o : Endpoint
  o = other_of c d

  Known : Placed → Type 0
  Known q = (IsPlain c q × IsKnown c q) × (is_request q ≡ false → is_of x.number q ≡ a.talked (other_of c q.datagram))

  all : AllByRecursion Known kp
  all = all_both (λ q. IsPlain c q × IsKnown c q) (λ q. is_request q ≡ false → is_of x.number q ≡ a.talked (other_of c q.datagram)) kp (all_both (IsPlain c) (IsKnown c) kp (all_first (IsPlain c) kp rest has.plain) has.known) a.talks

  Result : Type 0
  Result = (y : Transfer) × (y.client ≡ c) × (place_at c o (kp ++ rest) d ≡ Talks y) × TalksOn c kp x.number a.server o y

  talk : (q : Placed) → newest_of (spoken c o) kp ≡ Some q → is_request q ≡ false → is_of x.number q ≡ a.talked o → IsPlain c q → Result
  talk q found plain of (asks z is at) = absurd (false≢true (sym plain ∙ is))
  talk q found plain of (talks y is client) = (
    y,
    client,
    place_old c o (kp ++ rest) d x y a.by q has.latest (newest_first (spoken c o) kp rest any ∙ found) is a.answered,
    record { talked = a.talked; now = sym (of_talk x.number q y is) ∙ of; before = a.talks; with_server = a.is_talked },
  )

  by : (found : Option Placed) → newest_of (spoken c o) kp ≡ found → Result
  by None none = absurd (false≢true (sym (newest_some (spoken c o) kp none) ∙ any))
  by (Some q) found =
      let (is, spoke) = newest_all Known (spoken c o) kp q all found in
      let parts = and_parts (not (is_request q)) (is_between c o q.datagram) spoke in
      let plain : is_request q ≡ false = by_test (is_request q) (λ t. absurd (false≢true (sym (ap not t) ∙ parts.0))) (λ f. f) in
      talk q found plain (is.1 plain ∙ ap a.talked (other_is c o q.datagram parts.1)) is.0.0

-- it was not talked with before in this capture: from there on it is told by this one
apart_before : (c o : Endpoint) (n : ℕ) (b : Bool) (talked : Endpoint → Bool) (kp : List Placed) → AllByRecursion (IsKnown c) kp → list_any (spoken c o) kp ≡ false
    → AllByRecursion (λ q. is_request q ≡ false → is_of n q ≡ talked (other_of c q.datagram)) kp
    → AllByRecursion (λ q. is_request q ≡ false → is_of n q ≡ (if same_endpoint (other_of c q.datagram) o then b else talked (other_of c q.datagram))) kp
apart_before c o n b talked [] known none all = tt
apart_before c o n b talked (q ∷ ps) known none all =
    let parts = or_parts (spoken c o q) (list_any (spoken c o) ps) none in (
      λ plain.
          let differs : same_endpoint (other_of c q.datagram) o ≡ false = by_test (same_endpoint (other_of c q.datagram) o)
          (λ is. absurd (false≢true (sym parts.0 ∙ spoken_other c o q known.0 plain is))) (λ off. off) in
          all.0 plain ∙ sym (ap (λ t. if t then b else talked (other_of c q.datagram)) differs),
      apart_before c o n b talked ps known.1 parts.1 all.1,
    )

server_before : (c o server : Endpoint) (kp : List Placed) → list_any (spoken c o) kp ≡ false → list_any (spoken c server) kp ≡ true → same_endpoint server o ≡ false
server_before c o server kp none serves = by_test (same_endpoint server o)
    (λ is. absurd (false≢true (sym none ∙ subst (λ e. list_any (spoken c e) kp ≡ true) (is_same server o is) serves))) (λ off. off)

new_on : (c : Endpoint) (k : List Recorded) (older kp rest : List Placed) (x y : Transfer) (d : Recorded) → Has c k older kp rest x → (a : Answered c k older kp rest x)
    → list_any (spoken c (other_of c d)) kp ≡ false → TalksOn c kp x.number a.server (other_of c d) y
new_on c k older kp rest x y d has a none = record {
  talked = λ e. if same_endpoint e (other_of c d) then (y.number == x.number) else a.talked e;
  now = sym (ap (λ b. if b then (y.number == x.number) else a.talked (other_of c d)) (same_itself (other_of c d)));
  before = apart_before c (other_of c d) x.number (y.number == x.number) a.talked kp has.known none a.talks;
  with_server = ap (λ b. if b then (y.number == x.number) else a.talked a.server) (server_before c (other_of c d) a.server kp none a.serves) ∙ a.is_talked;
}

apart_on : (c : Endpoint) (k : List Recorded) (older kp rest : List Placed) (x : Transfer) (d : Recorded) → Has c k older kp rest x → (a : Answered c k older kp rest x)
    → Follows c k d → asks_from c d ≡ false → list_any (spoken c (other_of c d)) kp ≡ false
    → (y : Transfer) × (y.client ≡ c) × (place_at c (other_of c d) (kp ++ rest) d ≡ Talks y) × TalksOn c kp x.number a.server (other_of c d) y
apart_on c k older kp rest x d has a follows off none = by (newest_of (spoken c o) (kp ++ rest)) refl where
  o : Endpoint
  o = other_of c d

  Result : Type 0
  Result = (y : Transfer) × (y.client ≡ c) × (place_at c o (kp ++ rest) d ≡ Talks y) × TalksOn c kp x.number a.server o y

  talk : (q : Placed) → newest_of (spoken c o) (kp ++ rest) ≡ Some q → is_request q ≡ false → IsPlain c q → Result
  talk q found plain (asks z is at) = absurd (false≢true (sym plain ∙ is))
  talk q found plain (talks y is client) = (y, client, place_old c o (kp ++ rest) d x y a.by q has.latest found is a.answered, new_on c k older kp rest x y d has a none)

  sent : goes_from c d ≡ true → list_any (spoken c o) kp ≡ true
  sent from = heard_before c o kp has.known (subst (λ e. list_any (λ r. goes e c r && comes_at c r) (map (λ p. p.datagram) kp) ≡ true) (sym (ap (λ b. if b then d.target else d.source) from))
      (subst (λ l. list_any (λ r. goes d.target c r && comes_at c r) l ≡ true) (sym has.are) (follows.known from (no_begin c d off from))))

  by : (found : Option Placed) → newest_of (spoken c o) (kp ++ rest) ≡ found → Result
  by None nobody = by_test (goes_from c d)
      (λ from. absurd (false≢true (sym none ∙ sent from)))
      (λ came. (x, has.client, place_new c o (kp ++ rest) d x has.latest nobody came, new_on c k older kp rest x x d has a none))
  by (Some q) found =
      let (plain, spoke) = newest_all (IsPlain c) (spoken c o) (kp ++ rest) q has.plain found in
      let parts = and_parts (not (is_request q)) (is_between c o q.datagram) spoke in
      talk q found (by_test (is_request q) (λ t. absurd (false≢true (sym (ap not t) ∙ parts.0))) (λ f. f)) plain

pub Talked : (c : Endpoint) (k : List Recorded) (older kp rest : List Placed) (x : Transfer) (d : Recorded) (now : ℕ) → Type 0
Talked c k older kp rest x d now = (y : Transfer) × (y.client ≡ c) × (place_at c (other_of c d) (kp ++ rest) d ≡ Talks y)
    × State c (d ∷ k) (new d now (Talks y) ∷ older) (new d now (Talks y) ∷ kp) rest x

answered_talk : (c : Endpoint) (k : List Recorded) (older kp rest : List Placed) (x : Transfer) (d : Recorded) (now : ℕ) → Has c k older kp rest x → Answered c k older kp rest x
    → Follows c k d → asks_from c d ≡ false → Talked c k older kp rest x d now
unfolding Talked
answered_talk c k older kp rest x d now has a follows off = by_test (list_any (spoken c (other_of c d)) kp)
    (λ any. let (y, client, place, on) = known_on c k older kp rest x d has a any in (y, client, place, answered (answered_on c k older kp rest x y d now has a on)))
    (λ none. let (y, client, place, on) = apart_on c k older kp rest x d has a follows off none in (y, client, place, answered (answered_on c k older kp rest x y d now has a on)))

-- ---- in a transfer of which nothing has come in this capture

pub bottom_own : (r : Recorded) (n : ℕ) (kp : List Placed) → kp ≢ [] → AllByRecursion (λ q. (is_request q ≡ true) × (is_of n q ≡ true) × Same q.datagram r) kp → Bottom r n kp
bottom_own r n [] some all = absurd (some refl)
bottom_own r n (q ∷ []) some all = all.0
bottom_own r n (q ∷ s ∷ ps) some all = bottom_own r n (s ∷ ps) (λ none. absurd (cc)) all.1

pub none_first : (test : Placed → Bool) (ps : List Placed) → list_any test ps ≡ false → first_of test ps ≡ None
none_first test [] none = refl
none_first test (p ∷ ps) none =
    let parts = or_parts (test p) (list_any test ps) none in
    ap (λ o. or_this o (test p) p) (none_first test ps parts.1) ∙ ap (λ b. or_this None b p) parts.0

-- no request came
request_at : (d : Recorded) (now : ℕ) (place : Place) → is_request (new d now place) ≡ true → came_in (new d now place) ≡ false
request_at d now (Talks y) is = absurd (false≢true is)
request_at d now _ is = refl

requests_in : (ps : List Placed) → AllByRecursion (λ q. is_request q ≡ true) ps → list_any came_in ps ≡ false
requests_in [] all = refl
requests_in (q ∷ ps) all = ap (λ b. b || list_any came_in ps) (request_at q.datagram q.moment q.place all.0) ∙ requests_in ps all.1

pub own_requests : (n : ℕ) (kp : List Placed) → AllByRecursion (OthersOf n) kp → AllByRecursion (λ q. is_of n q ≡ true → is_request q ≡ true) kp
own_requests n [] all = tt
own_requests n (q ∷ kp) all = ((λ of. by_test (is_request q) (λ is. is) (λ off. absurd (false≢true (sym (all.0 off) ∙ of)))), own_requests n kp all.1)

pub filter_told : (P : Placed → Type 0) (test : Placed → Bool) (ps : List Placed) → AllByRecursion (λ p. test p ≡ true → P p) ps → AllByRecursion P (filter test ps)
filter_told P test [] all = tt
filter_told P test (p ∷ ps) all = kept_or_not test p
    (λ is. subst (AllByRecursion P) (sym (filter_kept test p ps is)) (all.0 is, filter_told P test ps all.1))
    (λ off. subst (AllByRecursion P) (sym (filter_dropped test p ps off)) (filter_told P test ps all.1))

none_in_view : (older kp : List Placed) (n : ℕ) → (a : AskedBefore older kp n) → AllByRecursion (OthersOf n) kp → list_any came_in (client_view n older) ≡ false
none_in_view older kp n a others = ap (list_any came_in) a.view
    ∙ requests_in (filter (is_of n) kp ++ a.before)
    (all_and (λ q. is_request q ≡ true) (filter (is_of n) kp) a.before (filter_told (λ q. is_request q ≡ true) (is_of n) kp (own_requests n kp others))
    (all_map (λ q. (is_request q ≡ true) × Same q.datagram a.r) (λ q. is_request q ≡ true) (λ q both. both.0) a.before a.repeated))

-- ---- captures as they were placed

pub any_mapped : (f : Recorded → Bool) (ps : List Placed) → list_any f (map (λ p. p.datagram) ps) ≡ list_any (λ p. f p.datagram) ps
any_mapped f [] = refl
any_mapped f (p ∷ ps) = ap (λ b. f p.datagram || b) (any_mapped f ps)

-- where something came and no answer did, what came first is none
strayed_is : (c : Endpoint) (kp : List Placed) → AllByRecursion (IsNoAnswer c) kp → list_any (λ q. comes_at c q.datagram) kp ≡ true → AnswersFirst c (map (λ p. p.datagram) kp) → ⊥
strayed_is c [] silent any first = false≢true any
strayed_is c (q ∷ kp) silent any first = by_test (list_any (λ p. comes_at c p.datagram) kp)
    (λ before. strayed_is c kp silent.1 before first.1)
    (λ none. elim (or_cases (comes_at c q.datagram) (list_any (λ p. comes_at c p.datagram) kp) any) [
      | inl this ↦ let off = from_none c q.datagram this in false≢true (sym (silent.0 off) ∙ first.0 off (any_mapped (comes_at c) kp ∙ none))
      | inr later ↦ false≢true (sym none ∙ later)
    ])

-- with whom the client spoke, from there something came
spoken_heard : (c o : Endpoint) (whole ps : List Placed) → AllByRecursion (IsHeard c whole) ps → list_any (spoken c o) ps ≡ true → list_any (λ e. came_from c o e.datagram) whole ≡ true
spoken_heard c o whole [] all any = absurd (false≢true any)
spoken_heard c o whole (q ∷ ps) all any = elim (or_cases (spoken c o q) (list_any (spoken c o) ps) any) [
  | inl this ↦
      let parts = and_parts (not (is_request q)) (is_between c o q.datagram) this in
      let plain : is_request q ≡ false = by_test (is_request q) (λ t. absurd (false≢true (sym (ap not t) ∙ parts.0))) (λ f. f) in
      subst (λ e. list_any (λ r. came_from c e r.datagram) whole ≡ true) (other_is c o q.datagram parts.1) (all.0 plain)
  | inr later ↦ spoken_heard c o whole ps all.1 later
]

heard_came : (c o : Endpoint) (ps : List Placed) → list_any (λ e. came_from c o e.datagram) ps ≡ true → list_any (λ e. comes_at c e.datagram) ps ≡ true
heard_came c o ps any = any_first_part (λ e. goes o c e.datagram) (λ e. comes_at c e.datagram) ps any

-- what the client sends itself does not come
no_self : (c o : Endpoint) (k : List Recorded) → o ≡ c → list_any (λ e. goes o c e && comes_at c e) k ≡ true → ⊥
no_self c o [] is any = false≢true any
no_self c o (e ∷ k) is any = elim (or_cases (goes o c e && comes_at c e) (list_any (λ r. goes o c r && comes_at c r) k) any) [
  | inl this ↦
      let parts = and_parts (goes o c e) (comes_at c e) this in
      let source = (and_parts (same_endpoint e.source o) (same_endpoint e.target c) parts.0).0 in
      false≢true (sym (ap not (subst (λ s. same_endpoint e.source s ≡ true) is source)) ∙ parts.1)
  | inr later ↦ no_self c o k is later
]

-- ---- the first answer

module _ (c : Endpoint) (k : List Recorded) (older kp rest : List Placed) (x : Transfer) (d : Recorded) (now : ℕ) (has : Has c k older kp rest x) (u : Unanswered c older kp rest x)
    (off : goes_from c d ≡ false) (here : is_between c (other_of c d) d ≡ true) where
  abbrev here_in : Placed
  here_in = new d now (Talks x)

  itself : (x.number == x.number) ≡ true
  itself = eq-eqb x.number x.number refl

  to_client : same_endpoint d.target x.client ≡ true
  to_client = subst (λ e. same_endpoint d.target e ≡ true) (sym has.client) (and_parts (same_endpoint d.source (other_of c d)) (same_endpoint d.target c) (comes_to_it c d off here)).1

  source_is : d.source ≡ other_of c d
  source_is = sym (ap (λ b. if b then d.target else d.source) off)

  in_view : first_of came_in (client_view x.number (here_in ∷ older)) ≡ Some here_in
  in_view = ap (first_of came_in) (filter_kept (is_of x.number) here_in older itself)
      ∙ ap (λ o. or_this o (same_endpoint d.target x.client) here_in) (none_first came_in (client_view x.number older) (none_in_view older kp x.number u.asked (all_first (OthersOf x.number) kp rest u.others)))
      ∙ ap (λ b. or_this None b here_in) to_client

  answered_now : answered_in x (here_in ∷ kp ++ rest) ≡ Some d.source
  answered_now = answered_more x here_in (kp ++ rest) refl
      ∙ ap (λ o. or_this o (answers x here_in) d.source) (unanswered x (kp ++ rest) u.others)
      ∙ ap (λ b. or_this None b d.source) (and_from (x.number == x.number) (same_endpoint d.target x.client) itself to_client)

  abbrev first_opened : Opened c (here_in ∷ older) (here_in ∷ kp) x.number
  first_opened = record {
    opener = here_in;
    view = in_view;
    newer = [];
    early = kp;
    split = refl;
    from = off;
    silent = u.silent;
    others = all_first (OthersOf x.number) kp rest u.others;
  }

  first_answered : list_any (spoken c (other_of c d)) kp ≡ false → Answered c (d ∷ k) (here_in ∷ older) (here_in ∷ kp) rest x
  first_answered none = record {
    came = or_left (comes_at c d) (list_any (comes_at c) k) (ap not off);
    asked = asked_more older kp x.number here_in u.asked;
    bottom = bottom_more u.asked.r x.number here_in kp u.bottom;
    by = d.source;
    answered = answered_now;
    ends = refl;
    talked = λ e. if same_endpoint e (other_of c d) then true else false;
    requests = ((λ is. absurd (false≢true is)), all_map (λ q. is_request q ≡ true → (is_of x.number q ≡ true) × Same q.datagram u.asked.r) (λ q. is_request q ≡ true → is_of x.number q ≡ true) (λ q own is. (own is).0) kp u.requests);
    talks = (
      (λ plain. itself ∙ sym (ap (λ (b : Bool). if b then true else false) (same_itself (other_of c d)))),
      apart_before c (other_of c d) x.number true (λ e. false) kp has.known none (all_first (OthersOf x.number) kp rest u.others),
    );
    others = all_last (OthersOf x.number) kp rest u.others;
    server = other_of c d;
    is_talked = ap (λ (b : Bool). if b then true else false) (same_itself (other_of c d));
    serves = or_left (spoken c (other_of c d) here_in) (list_any (spoken c (other_of c d)) kp) here;
    opened = first_opened;
    first = refl;
    by_server = source_is;
  }

  -- where something had come from there before
  first_misled : list_any (spoken c (other_of c d)) kp ≡ true → Misled c (d ∷ k) (here_in ∷ older) (here_in ∷ kp) rest x
  first_misled any =
      let heard = spoken_heard c (other_of c d) kp kp u.heard any in record {
        strayed = λ first. strayed_is c kp u.silent (heard_came c (other_of c d) kp heard) (subst (AnswersFirst c) (sym has.are) first.1);
        ends = refl;
        by = d.source;
        answered = answered_now;
        opened = first_opened;
        first = source_is;
        heard = heard;
      }

-- DATA 1 may be the first answer, but it was placed in another transfer
apart_is : (c : Endpoint) (k : List Recorded) (older kp rest : List Placed) (x y : Transfer) (d : Recorded) (now : ℕ) (q : Placed) → Has c k older kp rest x
    → live now (line c older) ≡ line c older → newest_of (spoken c (other_of c d)) (kp ++ rest) ≡ Some q → q.place ≡ Talks y → y.client ≡ c → (x.number == y.number) ≡ false
    → answered_in x (kp ++ rest) ≡ None → (goes (other_of c d) c d && is_answer d.payload) ≡ true → (is_data_1 d.payload && last_was_ack_0 c (other_of c d) (kp ++ rest)) ≡ true
    → is_it x.number (may_be_answer_of (new d now (Talks y)) older) ≡ true
apart_is c k older kp rest x y d now q has lived found is client other none may next =
    ap (λ e. is_it x.number (answer_of y (other_of e d) (live now (line e older)) d (latest_in (live now (line e older))))) client
    ∙ ap (λ l. is_it x.number (answer_of y (other_of c d) l d (latest_in l))) (lived ∙ has.whole)
    ∙ ap (λ t. is_it x.number (answer_of y (other_of c d) (kp ++ rest) d t)) has.latest
    ∙ ap (λ b. is_it x.number (if b then Some x.number else None)) (and_from (is_another y (Some x)) (may_answer y.client (other_of c d) (answered_in x (kp ++ rest)) d && is_next_data y (other_of c d) (kp ++ rest) d)
    (ap not other)
    (and_from (may_answer y.client (other_of c d) (answered_in x (kp ++ rest)) d) (is_next_data y (other_of c d) (kp ++ rest) d)
    (ap (λ a. may_answer y.client (other_of c d) a d) none ∙ ap (λ e. goes (other_of c d) e d && is_answer d.payload) client ∙ may)
    (ap (λ e. is_data_1 d.payload && acked_0_in (talk_in e (other_of c d) (kp ++ rest))) client
    ∙ ap (λ t. is_data_1 d.payload && acked_0_in t) (talk_found c (other_of c d) (kp ++ rest) q found) ∙ next)))
    ∙ eq-eqb x.number x.number refl

flip : (a b : ℕ) → (a == b) ≡ false → (b == a) ≡ false
flip a b off = by_test (b == a) (λ is. absurd (false≢true (sym off ∙ eq-eqb a b (sym (eqb-true b a is))))) (λ none. none)

-- where no answer came, and nothing of the transfer
unanswered_talk : (c : Endpoint) (k : List Recorded) (older kp rest : List Placed) (x : Transfer) (d : Recorded) (now : ℕ) → Has c k older kp rest x → Unanswered c older kp rest x
    → Follows c k d → asks_from c d ≡ false → live now (line c older) ≡ line c older → Talked c k older kp rest x d now
unfolding Talked
unanswered_talk c k older kp rest x d now has u follows off lived = by (newest_of (spoken c o) (kp ++ rest)) refl where
  o : Endpoint
  o = other_of c d

  Result : Type 0
  Result = (y : Transfer) × (y.client ≡ c) × (place_at c o (kp ++ rest) d ≡ Talks y) × State c (d ∷ k) (new d now (Talks y) ∷ older) (new d now (Talks y) ∷ kp) rest x

  none : answered_in x (kp ++ rest) ≡ None
  none = unanswered x (kp ++ rest) u.others

  target : goes_from c d ≡ true → other_of c d ≡ d.target
  target from = ap (λ b. if b then d.target else d.source) from

  heard_from : goes_from c d ≡ true → list_any (λ e. goes d.target c e && comes_at c e) k ≡ true
  heard_from from = follows.known from (no_begin c d off from)

  heard_there : goes_from c d ≡ true → list_any (λ e. came_from c o e.datagram) kp ≡ true
  heard_there from = sym (any_mapped (came_from c o) kp)
      ∙ subst (λ e. list_any (came_from c e) (map (λ p. p.datagram) kp) ≡ true) (sym (target from))
      (subst (λ l. list_any (λ e. goes d.target c e && comes_at c e) l ≡ true) (sym has.are) (heard_from from))

  sent : goes_from c d ≡ true → list_any (spoken c o) (kp ++ rest) ≡ true
  sent from = any_append (spoken c o) kp rest (heard_before c o kp has.known
      (subst (λ e. list_any (λ r. goes e c r && comes_at c r) (map (λ p. p.datagram) kp) ≡ true) (sym (target from))
      (subst (λ l. list_any (λ r. goes d.target c r && comes_at c r) l ≡ true) (sym has.are) (heard_from from))))

  -- it is of the transfer
  mine : goes_from c d ≡ false → State c (d ∷ k) (new d now (Talks x) ∷ older) (new d now (Talks x) ∷ kp) rest x
  mine came = by_test (list_any (spoken c o) kp)
      (λ any. misled (first_misled c k older kp rest x d now has u came follows.here any))
      (λ new_one. answered (first_answered c k older kp rest x d now has u came follows.here new_one))

  came_to : (goes o c d && is_answer d.payload) ≡ true → goes_from c d ≡ false
  came_to may =
      let to = (and_parts (same_endpoint d.source o) (same_endpoint d.target c) (and_parts (goes o c d) (is_answer d.payload) may).0).1 in
      by_test (goes_from c d) (λ from. absurd (no_self c d.target k (is_same d.target c to) (heard_from from))) (λ came. came)

  -- it is of another
  stays : (y : Transfer) → (y.number == x.number) ≡ false → (goes o c d && is_answer d.payload) ≡ false → State c (d ∷ k) (new d now (Talks y) ∷ older) (new d now (Talks y) ∷ kp) rest x
  stays y differs may_not = waiting (record {
    strayed = λ first. strayed_is c (new d now (Talks y) ∷ kp) silent (heard_came c o (new d now (Talks y) ∷ kp) heard) (subst (AnswersFirst c) (sym (ap (λ l. d ∷ l) has.are)) first);
    ends = refl;
    core = record {
      asked = asked_more older kp x.number (new d now (Talks y)) u.asked;
      bottom = bottom_more u.asked.r x.number (new d now (Talks y)) kp u.bottom;
      requests = ((λ is. absurd (false≢true is)), u.requests);
      others = ((λ plain. differs), u.others);
      silent = silent;
      heard = (
        (λ plain. heard),
        all_map (IsHeard c kp) (IsHeard c (new d now (Talks y) ∷ kp))
            (λ q is plain. or_right (came_from c (other_of c q.datagram) d) (list_any (λ e. came_from c (other_of c q.datagram) e.datagram) kp) (is plain)) kp u.heard,
      );
    };
  }) where
    silent : AllByRecursion (IsNoAnswer c) (new d now (Talks y) ∷ kp)
    silent = ((λ came. sym (ap (λ b. b && is_answer d.payload) (comes_to_it c d came follows.here)) ∙ may_not), u.silent)

    heard : list_any (λ e. came_from c o e.datagram) (new d now (Talks y) ∷ kp) ≡ true
    heard = by_test (goes_from c d)
        (λ from. or_right (came_from c o d) (list_any (λ e. came_from c o e.datagram) kp) (heard_there from))
        (λ came. or_left (came_from c o d) (list_any (λ e. came_from c o e.datagram) kp) (and_from (goes o c d) (comes_at c d) (comes_to_it c d came follows.here) (ap not came)))

  talk : (q : Placed) → newest_of (spoken c o) (kp ++ rest) ≡ Some q → is_request q ≡ false → is_of x.number q ≡ false → IsPlain c q → Result
  talk q found plain other (asks z is at) = absurd (false≢true (sym plain ∙ is))
  talk q found plain other (talks y is client) =
      let differs : (y.number == x.number) ≡ false = sym (of_talk x.number q y is) ∙ other in
      let place = place_unanswered c o (kp ++ rest) d x y q has.latest found is none in
      by_test (goes o c d && is_answer d.payload)
      (λ may. by_test (is_data_1 d.payload && last_was_ack_0 c o (kp ++ rest))
      (λ next. (
        y,
        client,
        place ∙ ap (λ b. if b && not (is_data_1 d.payload && last_was_ack_0 c o (kp ++ rest)) then Talks x else Talks y) may ∙ ap (λ b. if not b then Talks x else Talks y) next,
        doubted (doubted_apart x.number (new d now (Talks y)) older (apart_is c k older kp rest x y d now q has lived found is client (flip y.number x.number differs) none may next)),
      ))
      (λ not_next. (
        x,
        has.client,
        place ∙ ap (λ b. if b && not (is_data_1 d.payload && last_was_ack_0 c o (kp ++ rest)) then Talks x else Talks y) may ∙ ap (λ b. if not b then Talks x else Talks y) not_next,
        mine (came_to may),
      )))
      (λ may_not. (
        y,
        client,
        place ∙ ap (λ b. if b && not (is_data_1 d.payload && last_was_ack_0 c o (kp ++ rest)) then Talks x else Talks y) may_not,
        stays y differs may_not,
      ))

  by : (found : Option Placed) → newest_of (spoken c o) (kp ++ rest) ≡ found → Result
  by None nobody = by_test (goes_from c d)
      (λ from. absurd (false≢true (sym (newest_some (spoken c o) (kp ++ rest) nobody) ∙ sent from)))
      (λ came. (x, has.client, place_new c o (kp ++ rest) d x has.latest nobody came, mine came))
  by (Some q) found =
      let (is, spoke) = newest_all (λ p. IsPlain c p × OthersOf x.number p) (spoken c o) (kp ++ rest) q (all_both (IsPlain c) (OthersOf x.number) (kp ++ rest) has.plain u.others) found in
      let parts = and_parts (not (is_request q)) (is_between c o q.datagram) spoke in
      let plain : is_request q ≡ false = by_test (is_request q) (λ t. absurd (false≢true (sym (ap not t) ∙ parts.0))) (λ f. f) in
      talk q found plain (is.1 plain) is.0

-- where nothing came
none_silent : (c : Endpoint) (kp : List Placed) → list_any (comes_at c) (map (λ p. p.datagram) kp) ≡ false → AllByRecursion (IsNoAnswer c) kp
none_silent c [] none = tt
none_silent c (q ∷ kp) none =
    let parts = or_parts (comes_at c q.datagram) (list_any (comes_at c) (map (λ p. p.datagram) kp)) none in
    ((λ off. absurd (false≢true (sym parts.0 ∙ ap not off))), none_silent c kp parts.1)

pub unanswered_asking : (c : Endpoint) (k : List Recorded) (older kp rest : List Placed) (x : Transfer) → Has c k older kp rest x → Asking c k older kp rest x → Unanswered c older kp rest x
unanswered_asking c k older kp rest x has a = record {
  asked = a.asked;
  bottom = bottom_own a.asked.r x.number kp has.some a.own;
  requests = all_map (λ q. (is_request q ≡ true) × (is_of x.number q ≡ true) × Same q.datagram a.asked.r) (λ q. is_request q ≡ true → (is_of x.number q ≡ true) × Same q.datagram a.asked.r)
      (λ q own is. (own.1, own.2)) kp a.own;
  others = a.others;
  silent = none_silent c kp (subst (λ l. list_any (comes_at c) l ≡ false) (sym has.are) a.none_came);
  heard = all_map (λ q. (is_request q ≡ true) × (is_of x.number q ≡ true) × Same q.datagram a.asked.r) (IsHeard c kp) (λ q own plain. absurd (false≢true (sym plain ∙ own.0))) kp a.own;
}

misled_talk : (c : Endpoint) (k : List Recorded) (older kp rest : List Placed) (x : Transfer) (d : Recorded) (now : ℕ) → Misled c k older kp rest x
    → (y : Transfer) → State c (d ∷ k) (new d now (Talks y) ∷ older) (new d now (Talks y) ∷ kp) rest x
misled_talk c k older kp rest x d now a y = misled (record {
  strayed = λ first. a.strayed first.1;
  ends = refl;
  by = a.by;
  answered = answered_more x (new d now (Talks y)) (kp ++ rest) refl ∙ ap (λ o. or_this o (answers x (new d now (Talks y))) d.source) a.answered;
  opened = opened_more c older kp x.number (new d now (Talks y)) a.opened;
  first = a.first;
  heard = a.heard;
})

-- ---- in one that was opened by a late request

-- what the client said as it went on was no request
went_plain : (c : Endpoint) (q : Placed) → IsKnown c q → goes_on_from c q.datagram ≡ true → is_request q ≡ false
went_plain c q known on = by_test (begins_request q.datagram.payload)
    (λ is. absurd (false≢true (sym (ap (λ b. if b then false else (goes_from c q.datagram && not (begins_error q.datagram.payload))) is) ∙ on)))
    (λ off. known.kind ∙ ap (λ b. goes_from c q.datagram && b) off ∙ and_off (goes_from c q.datagram))
  where
    and_off : (b : Bool) → (b && false) ≡ false
    and_off true = refl
    and_off false = refl

went_spoken : (c o : Endpoint) (kp : List Placed) → AllByRecursion (IsKnown c) kp → AreWith c o kp → list_any (goes_on_from c) (map (λ p. p.datagram) kp) ≡ true → list_any (spoken c o) kp ≡ true
went_spoken c o [] known with any = absurd (false≢true any)
went_spoken c o (q ∷ kp) known with any = elim (or_cases (goes_on_from c q.datagram) (list_any (goes_on_from c) (map (λ p. p.datagram) kp)) any) [
  | inl this ↦
      let plain = went_plain c q known.0 this in
      or_left (spoken c o q) (list_any (spoken c o) kp) (spoken_other c o q known.0 plain (subst (λ e. same_endpoint e o ≡ true) (sym (with.0 plain)) (same_itself o)))
  | inr later ↦ or_right (spoken c o q) (list_any (spoken c o) kp) (went_spoken c o kp known.1 with.1 later)
]

went_apart : (c : Endpoint) (n : ℕ) (kp : List Placed) → AllByRecursion (IsKnown c) kp → AllByRecursion (OthersOf n) kp → list_any (goes_on_from c) (map (λ p. p.datagram) kp) ≡ true → list_any (goes_on_apart c n) kp ≡ true
went_apart c n [] known others any = absurd (false≢true any)
went_apart c n (q ∷ kp) known others any = elim (or_cases (goes_on_from c q.datagram) (list_any (goes_on_from c) (map (λ p. p.datagram) kp)) any) [
  | inl this ↦
      let plain = went_plain c q known.0 this in
      or_left (goes_on_apart c n q) (list_any (goes_on_apart c n) kp)
      (and_from (goes_on_from c q.datagram) (talks_apart n q) this (and_from (not (is_request q)) (not (is_of n q)) (ap not plain) (ap not (others.0 plain))))
  | inr later ↦ or_right (goes_on_apart c n q) (list_any (goes_on_apart c n) kp) (went_apart c n kp known.1 others.1 later)
]

reopened_talk : (c : Endpoint) (k : List Recorded) (older kp rest : List Placed) (x : Transfer) (d : Recorded) (now : ℕ) → Has c k older kp rest x → Reopened c k older kp rest x
    → Follows c k d → asks_from c d ≡ false → Talked c k older kp rest x d now
unfolding Talked
reopened_talk c k older kp rest x d now has a follows off = by (newest_of (spoken c o) (kp ++ rest)) refl where
  o : Endpoint
  o = other_of c d

  Result : Type 0
  Result = (y : Transfer) × (y.client ≡ c) × (place_at c o (kp ++ rest) d ≡ Talks y) × State c (d ∷ k) (new d now (Talks y) ∷ older) (new d now (Talks y) ∷ kp) rest x

  went : list_any (goes_on_from c) (map (λ p. p.datagram) kp) ≡ true
  went = subst (λ l. list_any (goes_on_from c) l ≡ true) (sym has.are) a.went_on

  none : answered_in x (kp ++ rest) ≡ None
  none = unanswered x (kp ++ rest) a.others

  sent : goes_from c d ≡ true → list_any (spoken c o) (kp ++ rest) ≡ true
  sent from = any_append (spoken c o) kp rest (heard_before c o kp has.known
      (subst (λ e. list_any (λ r. goes e c r && comes_at c r) (map (λ p. p.datagram) kp) ≡ true) (sym (ap (λ b. if b then d.target else d.source) from))
      (subst (λ l. list_any (λ r. goes d.target c r && comes_at c r) l ≡ true) (sym has.are) (follows.known from (no_begin c d off from)))))

  strange : newest_of (spoken c o) (kp ++ rest) ≡ None → State c (d ∷ k) (new d now (Talks x) ∷ older) (new d now (Talks x) ∷ kp) rest x
  strange nobody = mixed (record {
    untimely = λ timely. a.untimely timely.1;
    ends = refl;
    mixed = λ e with.
        let here : AreWith c o kp = subst (λ w. AreWith c w kp) (sym (with.0 refl)) with.1 in
        false≢true (sym (newest_some (spoken c o) (kp ++ rest) nobody) ∙ any_append (spoken c o) kp rest (went_spoken c o kp has.known here went));
  })

  goes_over : ((goes o c d && is_answer d.payload) && not (is_data_1 d.payload && last_was_ack_0 c o (kp ++ rest))) ≡ true → State c (d ∷ k) (new d now (Talks x) ∷ older) (new d now (Talks x) ∷ kp) rest x
  goes_over over =
      let parts = and_parts (goes o c d && is_answer d.payload) (not (is_data_1 d.payload && last_was_ack_0 c o (kp ++ rest))) over in
      let may = and_parts (goes o c d) (is_answer d.payload) parts.0 in
      let to = (and_parts (same_endpoint d.source o) (same_endpoint d.target c) may.0).1 in
      taken (record {
        untimely = λ timely. a.untimely timely.1;
        ends = refl;
        asked = asked_more older kp x.number (new d now (Talks x)) a.asked;
        came = or_left (comes x.number (new d now (Talks x))) (list_any (comes x.number) older)
            (and_from (x.number == x.number) (same_endpoint d.target x.client) (eq-eqb x.number x.number refl) (subst (λ e. same_endpoint d.target e ≡ true) (sym has.client) to));
        there = contains_later d k a.asked.r a.there;
        asks_it = a.asks_it;
        went = or_right (goes_on_apart c x.number (new d now (Talks x))) (list_any (goes_on_apart c x.number) kp) went_before;
        opened = record {
          opener = new d now (Talks x);
          newer = [];
          early = kp;
          split = refl;
          own = eq-eqb x.number x.number refl;
          from = by_test (goes_from c d) (λ from. absurd (no_self c d.target k (is_same d.target c to) (follows.known from (no_begin c d off from)))) (λ came. came);
          answers = may.1;
          no_next = by_test (is_data_1 d.payload && last_was_ack_0 c o (kp ++ rest)) (λ is. absurd (false≢true (sym (ap not is) ∙ parts.1))) (λ none_next. none_next);
          others = all_first (OthersOf x.number) kp rest a.others;
          went = sym (any_mapped (goes_on_from c) kp) ∙ went;
        };
      })
    where
      went_before : list_any (goes_on_apart c x.number) kp ≡ true
      went_before = went_apart c x.number kp has.known (all_first (OthersOf x.number) kp rest a.others) went

  stays : (y : Transfer) → (y.number == x.number) ≡ false → State c (d ∷ k) (new d now (Talks y) ∷ older) (new d now (Talks y) ∷ kp) rest x
  stays y differs = reopened (record {
    untimely = λ timely. a.untimely timely.1;
    went_on = or_right (goes_on_from c d) (list_any (goes_on_from c) k) a.went_on;
    asked = asked_more older kp x.number (new d now (Talks y)) a.asked;
    there = contains_later d k a.asked.r a.there;
    asks_it = a.asks_it;
    same = ((λ of. absurd (false≢true (sym differs ∙ of))), a.same);
    top_same = λ top. absurd (false≢true top);
    others = (λ plain. differs, a.others);
  })

  talk : (q : Placed) → newest_of (spoken c o) (kp ++ rest) ≡ Some q → is_request q ≡ false → is_of x.number q ≡ false → IsPlain c q → Result
  talk q found plain other (asks z is at) = absurd (false≢true (sym plain ∙ is))
  talk q found plain other (talks y is client) =
      let differs : (y.number == x.number) ≡ false = sym (of_talk x.number q y is) ∙ other in
      let place = place_unanswered c o (kp ++ rest) d x y q has.latest found is none in
      by_test ((goes o c d && is_answer d.payload) && not (is_data_1 d.payload && last_was_ack_0 c o (kp ++ rest)))
      (λ over. (
        x,
        has.client,
        place ∙ ap (λ b. if b then Talks x else Talks y) over,
        goes_over over,
      ))
      (λ not_over. (y, client, place ∙ ap (λ b. if b then Talks x else Talks y) not_over, stays y differs))

  by : (found : Option Placed) → newest_of (spoken c o) (kp ++ rest) ≡ found → Result
  by None nobody = by_test (goes_from c d)
      (λ from. absurd (false≢true (sym (newest_some (spoken c o) (kp ++ rest) nobody) ∙ sent from)))
      (λ came. (x, has.client, place_new c o (kp ++ rest) d x has.latest nobody came, strange nobody))
  by (Some q) found =
      let (is, spoke) = newest_all (λ p. IsPlain c p × OthersOf x.number p) (spoken c o) (kp ++ rest) q (all_both (IsPlain c) (OthersOf x.number) (kp ++ rest) has.plain a.others) found in
      let parts = and_parts (not (is_request q)) (is_between c o q.datagram) spoke in
      let plain : is_request q ≡ false = by_test (is_request q) (λ t. absurd (false≢true (sym (ap not t) ∙ parts.0))) (λ f. f) in
      talk q found plain (is.1 plain) is.0

taken_talk : (c : Endpoint) (k : List Recorded) (older kp rest : List Placed) (x : Transfer) (d : Recorded) (now : ℕ) → Taken c k older kp rest x
    → (y : Transfer) → State c (d ∷ k) (new d now (Talks y) ∷ older) (new d now (Talks y) ∷ kp) rest x
taken_talk c k older kp rest x d now a y = taken (record {
  untimely = λ timely. a.untimely timely.1;
  ends = refl;
  asked = asked_more older kp x.number (new d now (Talks y)) a.asked;
  came = or_right (comes x.number (new d now (Talks y))) (list_any (comes x.number) older) a.came;
  there = contains_later d k a.asked.r a.there;
  asks_it = a.asks_it;
  went = or_right (goes_on_apart c x.number (new d now (Talks y))) (list_any (goes_on_apart c x.number) kp) a.went;
  opened = record {
    opener = a.opened.opener;
    newer = new d now (Talks y) ∷ a.opened.newer;
    early = a.opened.early;
    split = ap (λ l. new d now (Talks y) ∷ l) a.opened.split;
    own = a.opened.own;
    from = a.opened.from;
    answers = a.opened.answers;
    no_next = a.opened.no_next;
    others = a.opened.others;
    went = a.opened.went;
  };
})

-- ---- in a doubted one, and in each

any_talk : (c : Endpoint) (k : List Recorded) (older kp rest : List Placed) (x : Transfer) (d : Recorded) (now : ℕ) → Has c k older kp rest x
    → ((y : Transfer) → State c (d ∷ k) (new d now (Talks y) ∷ older) (new d now (Talks y) ∷ kp) rest x)
    → Follows c k d → asks_from c d ≡ false → Talked c k older kp rest x d now
unfolding Talked
any_talk c k older kp rest x d now has still follows off = by (newest_of (spoken c o) (kp ++ rest)) refl where
  o : Endpoint
  o = other_of c d

  Result : Type 0
  Result = (y : Transfer) × (y.client ≡ c) × (place_at c o (kp ++ rest) d ≡ Talks y) × State c (d ∷ k) (new d now (Talks y) ∷ older) (new d now (Talks y) ∷ kp) rest x

  sent : goes_from c d ≡ true → list_any (spoken c o) (kp ++ rest) ≡ true
  sent from = any_append (spoken c o) kp rest (heard_before c o kp has.known
      (subst (λ e. list_any (λ r. goes e c r && comes_at c r) (map (λ p. p.datagram) kp) ≡ true) (sym (ap (λ b. if b then d.target else d.source) from))
      (subst (λ l. list_any (λ r. goes d.target c r && comes_at c r) l ≡ true) (sym has.are) (follows.known from (no_begin c d off from)))))

  chosen : (b : Bool) (y : Transfer) → y.client ≡ c → place_at c o (kp ++ rest) d ≡ (if b then Talks x else Talks y) → Result
  chosen true y client place = (x, has.client, place, still x)
  chosen false y client place = (y, client, place, still y)

  with_answer : (q : Placed) (y : Transfer) → newest_of (spoken c o) (kp ++ rest) ≡ Some q → q.place ≡ Talks y → y.client ≡ c → (a : Option Endpoint) → answered_in x (kp ++ rest) ≡ a → Result
  with_answer q y found place client None none = chosen _ y client (place_unanswered c o (kp ++ rest) d x y q has.latest found place none)
  with_answer q y found place client (Some a) some = (y, client, place_old c o (kp ++ rest) d x y a q has.latest found place some, still y)

  talk : (q : Placed) → newest_of (spoken c o) (kp ++ rest) ≡ Some q → is_request q ≡ false → IsPlain c q → Result
  talk q found plain (asks z request at) = absurd (false≢true (sym plain ∙ request))
  talk q found plain (talks y place client) = with_answer q y found place client (answered_in x (kp ++ rest)) refl

  by : (found : Option Placed) → newest_of (spoken c o) (kp ++ rest) ≡ found → Result
  by None nobody = by_test (goes_from c d)
      (λ from. absurd (false≢true (sym (newest_some (spoken c o) (kp ++ rest) nobody) ∙ sent from)))
      (λ came. (x, has.client, place_new c o (kp ++ rest) d x has.latest nobody came, still x))
  by (Some q) found =
      let (plain, spoke) = newest_all (IsPlain c) (spoken c o) (kp ++ rest) q has.plain found in
      let parts = and_parts (not (is_request q)) (is_between c o q.datagram) spoke in
      talk q found (by_test (is_request q) (λ t. absurd (false≢true (sym (ap not t) ∙ parts.0))) (λ f. f)) plain

-- so what is no request is of a transfer, and the line goes on
pub talk_step : (c : Endpoint) (k : List Recorded) (older kp rest : List Placed) (x : Transfer) (d : Recorded) (now : ℕ) → Has c k older kp rest x → Follows c k d → asks_from c d ≡ false
    → live now (line c older) ≡ line c older
    → (y : Transfer) × (y.client ≡ c) × (place_at c (other_of c d) (line c older) d ≡ Talks y) × Has c (d ∷ k) (new d now (Talks y) ∷ older) (new d now (Talks y) ∷ kp) rest x
unfolding Talked
talk_step c k older kp rest x d now has follows off lived = by has.state where
  Result : Type 0
  Result = (y : Transfer) × (y.client ≡ c) × (place_at c (other_of c d) (line c older) d ≡ Talks y) × Has c (d ∷ k) (new d now (Talks y) ∷ older) (new d now (Talks y) ∷ kp) rest x

  all : Talked c k older kp rest x d now → Result
  all (y, client, place, state) = (
    y,
    client,
    ap (λ l. place_at c (other_of c d) l d) has.whole ∙ place,
    talk_has c k older kp rest x y d now has client off follows.here lived
        (terms_talk c k older kp rest x y d now has follows off place) state,
  )

  by : State c k older kp rest x → Result
  by (doubted is) = all (any_talk c k older kp rest x d now has (λ y. doubted (doubted_more x.number (new d now (Talks y)) older is)) follows off)
  by (taken a) = all (any_talk c k older kp rest x d now has (taken_talk c k older kp rest x d now a) follows off)
  by (mixed a) = all (any_talk c k older kp rest x d now has
      (λ y. mixed (record { untimely = λ timely. a.untimely timely.1; ends = refl; mixed = λ e with. a.mixed e with.1 })) follows off)
  by (reopened a) = all (reopened_talk c k older kp rest x d now has a follows off)
  by (asking a) = all (unanswered_talk c k older kp rest x d now has (unanswered_asking c k older kp rest x has a) follows off lived)
  by (waiting a) = all (unanswered_talk c k older kp rest x d now has a.core follows off lived)
  by (misled a) = all (any_talk c k older kp rest x d now has (misled_talk c k older kp rest x d now a) follows off)
  by (answered a) = all (answered_talk c k older kp rest x d now has a follows off)
