-- A client's line with a request more: of the same capture, or the first of the next.
use Rattle.std.proofs.Common.{◌≡◌, ℕ, Bool, true, false, List, [], ◌∷◌, ◌++◌, Some, refl, sym, ap, subst, ◌∙◌, ◌==◌, ◌&&◌, ◌||◌, not, length, bytes_eq}
use Rattle.std.specs.List.{list_any, AllByRecursion, filter}
use Rattle.std.proofs.lemmas.Bool.{false≢true, or_right, and_from, and_parts, eq-eqb}
use Rattle.std.proofs.lemmas.Slice.Eq.{bytes_eq-Decides}
use Rattle.audit_flows.specs.Lines.{opening, Recorded, Placed, same_endpoint, is_between, is_again, other_of, is_of, is_request, is_apart, newest_of, reach, live, line, says_more, is_alike_in, begins_request, goes, transfer_of, opened_by, asked_after, place_asked, is_asked_again}
use Rattle.audit_flows.specs.{Endpoint, Place, Opens, Repeats, Apart, Transfer}
use Rattle.audit_flows.proofs.LinesLemmas.Endpoints.{is_same, same_itself}
use Rattle.audit_flows.proofs.LinesLemmas.Lines.{by_test}
use Rattle.audit_flows.proofs.TransfersLemmas.AllLines.{line_here}
use Rattle.audit_spared.proofs.FairLemmas.Thinned.{filter_kept, filter_dropped, kept_or_not}
use Rattle.audit_spared.specs.Spared.{Follows, asks_from, comes_at, goes_from, goes_on_from}
use Rattle.audit_spared.proofs.SparedLemmas.Basics.{doubted_more, doubted_again, all_and, all_first}
use Rattle.law_model.proofs.ModelLemmas.Members.{contains_first, contains_later}
use Rattle.audit_spared.proofs.SparedLemmas.Stands.{new, ends_in_request, IsPlain, asks, talks, Same, OthersOf, Asking, State, doubted, asking, waiting, misled, answered, reopened, taken, mixed, Terms, Has}
use Rattle.audit_spared.proofs.SparedLemmas.Talks.{asked_more, filter_told}
use Rattle.audit_spared.proofs.SparedLemmas.Terms.{terms_first, terms_open, terms_repeat, terms_repeat_first}

-- ---- a request repeats what stands before it, or it opens a transfer

pub data IsAsked (q : Placed) (number : ℕ) (d : Recorded) (place : Place) : Type 0 where
  repeated : (x : Transfer) → is_request q ≡ true → transfer_of q.place ≡ Some x → is_again q.datagram d ≡ true → place ≡ Repeats x → IsAsked q number d place
  opened : place ≡ opened_by number d → IsAsked q number d place

asked_of : (e : Recorded) (now : ℕ) (place : Place) (number : ℕ) (d : Recorded) (b : Bool) → is_again e d ≡ b → IsAsked (new e now place) number d (asked_after (opened_by number d) place b)
asked_of e now (Opens x) number d true is = repeated x refl refl is refl
asked_of e now (Opens x) number d false is = opened refl
asked_of e now (Repeats x) number d true is = repeated x refl refl is refl
asked_of e now (Repeats x) number d false is = opened refl
asked_of e now _ number d b is = opened refl

request_here : (e : Recorded) (now : ℕ) (place : Place) → is_request (new e now place) ≡ true → is_apart (new e now place) ≡ false
request_here e now (Apart a) is = absurd (false≢true is)
request_here e now _ is = refl

not_apart : (c : Endpoint) (q : Placed) → IsPlain c q → is_apart q ≡ false
not_apart c q (asks x is at) = request_here q.datagram q.moment q.place is
not_apart c q (talks y is client) = ap (λ place. is_apart (new q.datagram q.moment place)) is

is_asked : (c : Endpoint) (q : Placed) (ps : List Placed) (number : ℕ) (d : Recorded) → IsPlain c q → IsAsked q number d (place_asked number d (q ∷ ps))
is_asked c q ps number d plain =
    let here : place_asked number d (q ∷ ps) ≡ asked_after (opened_by number d) q.place (is_again q.datagram d) = rw (not_apart c q plain) refl in
    subst (IsAsked q number d) (sym here) (asked_of q.datagram q.moment q.place number d (is_again q.datagram d) refl)

again_same : (e d : Recorded) → is_again e d ≡ true → Same e d
again_same e d is =
    let parts = and_parts (bytes_eq e.payload d.payload) (goes d.source d.target e) is in
    let ends = and_parts (same_endpoint e.source d.source) (same_endpoint e.target d.target) parts.1 in
    record { payload = (bytes_eq-Decides e.payload d.payload).0 parts.0; source = is_same e.source d.source ends.0; target = is_same e.target d.target ends.1 }

same_back : (one other third : Recorded) → Same one other → Same one third → Same other third
same_back one other third is also = record { payload = sym is.payload ∙ also.payload; source = sym is.source ∙ also.source; target = sym is.target ∙ also.target }

pub asks_goes : (c : Endpoint) (d : Recorded) → asks_from c d ≡ true → goes_from c d ≡ true
asks_goes c d is = (and_parts (goes_from c d) (begins_request d.payload) is).0

-- ---- lists

pub all_filter : {X : Type 0} (P : X → Type 0) (test : X → Bool) (xs : List X) → AllByRecursion P xs → AllByRecursion P (filter test xs)
all_filter P test [] all = tt
all_filter P test (x ∷ xs) all = kept_or_not test x
    (λ is. subst (AllByRecursion P) (sym (filter_kept test x xs is)) (all.0, all_filter P test xs all.1))
    (λ off. subst (AllByRecursion P) (sym (filter_dropped test x xs off)) (all_filter P test xs all.1))

none_filter : {X : Type 0} (test : X → Bool) (xs : List X) → AllByRecursion (λ x. test x ≡ false) xs → filter test xs ≡ []
none_filter test [] all = refl
none_filter test (x ∷ xs) all = filter_dropped test x xs all.0 ∙ none_filter test xs all.1

pub all_second : {X : Type 0} (P : X → Type 0) (Q : X → Type 0) → ((x : X) → P x → Q x) → (xs : List X) → AllByRecursion P xs → AllByRecursion Q xs
all_second P Q f [] all = tt
all_second P Q f (x ∷ xs) all = (f x all.0, all_second P Q f xs all.1)

same_itself_all : (d : Recorded) → Same d d
same_itself_all d = record { payload = refl; source = refl; target = refl }

-- ---- in the same capture

-- it is that of before
repeat_has : (c : Endpoint) (k : List Recorded) (older kp rest : List Placed) (x : Transfer) (d : Recorded) (now : ℕ) → Has c k older kp rest x → ends_in_request kp ≡ true → asks_from c d ≡ true
    → is_between c (other_of c d) d ≡ true → live now (line c older) ≡ line c older → Terms c (d ∷ k) (new d now (Repeats x) ∷ kp) rest x
    → State c (d ∷ k) (new d now (Repeats x) ∷ older) (new d now (Repeats x) ∷ kp) rest x
    → Has c (d ∷ k) (new d now (Repeats x) ∷ older) (new d now (Repeats x) ∷ kp) rest x
repeat_has c k older kp rest x d now has request is here lived terms state = record {
  whole = line_here c (new d now (Repeats x)) older (ap (λ e. same_endpoint e c) has.client ∙ same_itself c) ∙ ap (λ l. new d now (Repeats x) ∷ l) (lived ∙ has.whole);
  some = λ none. absurd (cc);
  are = ap (λ l. d ∷ l) has.are;
  known = (record { kind = sym is; here = here }, has.known);
  plain = (asks x refl refl, has.plain);
  latest = has.latest;
  client = has.client;
  top = λ request. refl;
  more = λ any. or_right (goes_on_from c d) (list_any (goes_on_from c) k) (has.more any);
  pure = λ top. has.pure request;
  alike = λ e all. all.0 is;
  terms = terms;
  state = state;
}

repeat_state : (c : Endpoint) (k : List Recorded) (older : List Placed) (q : Placed) (ps rest : List Placed) (x : Transfer) (d : Recorded) (now : ℕ) → is_request q ≡ true → is_again q.datagram d ≡ true
    → asks_from c d ≡ true → State c k older (q ∷ ps) rest x → State c (d ∷ k) (new d now (Repeats x) ∷ older) (new d now (Repeats x) ∷ q ∷ ps) rest x
repeat_state c k older q ps rest x d now request again is (doubted already) = doubted (doubted_more x.number (new d now (Repeats x)) older already)
repeat_state c k older q ps rest x d now request again is (waiting a) = absurd (false≢true (sym a.ends ∙ request))
repeat_state c k older q ps rest x d now request again is (misled a) = absurd (false≢true (sym a.ends ∙ request))
repeat_state c k older q ps rest x d now request again is (answered a) = absurd (false≢true (sym a.ends ∙ request))
repeat_state c k older q ps rest x d now request again is (taken a) = absurd (false≢true (sym a.ends ∙ request))
repeat_state c k older q ps rest x d now request again is (mixed a) = absurd (false≢true (sym a.ends ∙ request))
repeat_state c k older q ps rest x d now request again is (reopened a) =
    let same = same_back q.datagram d a.asked.r (again_same q.datagram d again) (a.top_same request) in reopened (record {
      untimely = λ timely. a.untimely timely.1;
      went_on = or_right (goes_on_from c d) (list_any (goes_on_from c) k) a.went_on;
      asked = asked_more older (q ∷ ps) x.number (new d now (Repeats x)) a.asked;
      there = contains_later d k a.asked.r a.there;
      asks_it = a.asks_it;
      same = ((λ of. (refl, same)), a.same);
      top_same = λ top. same;
      others = (λ off. absurd (false≢true (sym off)), a.others);
    })
repeat_state c k older q ps rest x d now request again is (asking a) = asking (record {
  none_came = ap (λ b. not b || list_any (comes_at c) k) (asks_goes c d is) ∙ a.none_came;
  asked = asked_more older (q ∷ ps) x.number (new d now (Repeats x)) a.asked;
  own = ((refl, eq-eqb x.number x.number refl, same_back q.datagram d a.asked.r (again_same q.datagram d again) a.own.0.2), a.own);
  others = (λ off. absurd (false≢true (sym off)), a.others);
})

-- it opens another, which is doubtful
again_is : (c : Endpoint) (k : List Recorded) (older kp rest : List Placed) (x : Transfer) (d : Recorded) (now : ℕ) → Has c k older kp rest x → Follows c k d → asks_from c d ≡ true → list_any says_more (reach (kp ++ rest)) ≡ false
    → live now (line c older) ≡ line c older → is_asked_again (new d now (Opens (opening (length older) d))) older ≡ true
again_is c k older kp rest x d now has follows is none lived =
    ap (λ e. is_alike_in d (newest_of is_request (live now (line e older))) && not (list_any says_more (reach (live now (line e older))))) (is_same d.source c (asks_goes c d is))
    ∙ ap (λ l. is_alike_in d (newest_of is_request l) && not (list_any says_more (reach l))) (lived ∙ has.whole)
    ∙ and_from (is_alike_in d (newest_of is_request (kp ++ rest))) (not (list_any says_more (reach (kp ++ rest)))) (has.alike d (follows.alike is))
    (ap not none)

-- whatever its state
open_has : (c : Endpoint) (k : List Recorded) (older kp rest : List Placed) (x : Transfer) (d : Recorded) (now : ℕ) → Has c k older kp rest x → Follows c k d → asks_from c d ≡ true
    → live now (line c older) ≡ line c older → AllByRecursion (λ q. is_of (length older) q ≡ false) (kp ++ rest)
    → State c (d ∷ k) (new d now (Opens (opening (length older) d)) ∷ older) (new d now (Opens (opening (length older) d)) ∷ kp) rest (opening (length older) d)
    → Has c (d ∷ k) (new d now (Opens (opening (length older) d)) ∷ older) (new d now (Opens (opening (length older) d)) ∷ kp) rest (opening (length older) d)
open_has c k older kp rest x d now has follows is lived fresh state =
    let client : d.source ≡ c = is_same d.source c (asks_goes c d is) in record {
      whole = line_here c (new d now (Opens (opening (length older) d))) older (ap (λ e. same_endpoint e c) client ∙ same_itself c) ∙ ap (λ l. new d now (Opens (opening (length older) d)) ∷ l) (lived ∙ has.whole);
      some = λ none. absurd (cc);
      are = ap (λ l. d ∷ l) has.are;
      known = (record { kind = sym is; here = follows.here }, has.known);
      plain = (asks (opening (length older) d) refl refl, has.plain);
      latest = refl;
      client = client;
      top = λ request. refl;
      more = λ any. absurd (false≢true any);
      pure = λ top. refl;
      alike = λ e all. all.0 is;
      terms = terms_open c k kp rest x d now (length older) is fresh has.terms;
      state = state;
    }

-- doubtful, where the client had not gone on
again_state : (c : Endpoint) (k : List Recorded) (older kp rest : List Placed) (x : Transfer) (d : Recorded) (now : ℕ) → Has c k older kp rest x → Follows c k d → asks_from c d ≡ true
    → list_any says_more (reach (kp ++ rest)) ≡ false → live now (line c older) ≡ line c older
    → State c (d ∷ k) (new d now (Opens (opening (length older) d)) ∷ older) (new d now (Opens (opening (length older) d)) ∷ kp) rest (opening (length older) d)
again_state c k older kp rest x d now has follows is none lived =
    doubted (doubted_again (length older) (new d now (Opens (opening (length older) d))) older (eq-eqb (length older) (length older) refl) (again_is c k older kp rest x d now has follows is none lived))

-- late, where it had
late_state : (c : Endpoint) (k : List Recorded) (older kp rest : List Placed) (d : Recorded) (now : ℕ) → list_any (goes_on_from c) k ≡ true → asks_from c d ≡ true
    → AllByRecursion (λ q. is_of (length older) q ≡ false) older → AllByRecursion (λ q. is_of (length older) q ≡ false) (kp ++ rest)
    → State c (d ∷ k) (new d now (Opens (opening (length older) d)) ∷ older) (new d now (Opens (opening (length older) d)) ∷ kp) rest (opening (length older) d)
late_state c k older kp rest d now went is fresh line_fresh =
    let n = length older in
    let itself : (length older == length older) ≡ true = eq-eqb (length older) (length older) refl in
    let kp_fresh = all_first (λ q. is_of (length older) q ≡ false) kp rest line_fresh in
    reopened (record {
      untimely = λ timely. false≢true (sym (timely.0 is) ∙ went);
      went_on = or_right (goes_on_from c d) (list_any (goes_on_from c) k) went;
      asked = record {
        r = d;
        before = [];
        view = filter_kept (is_of (length older)) (new d now (Opens (opening (length older) d))) older itself
            ∙ ap (λ l. new d now (Opens (opening (length older) d)) ∷ l) (none_filter (is_of (length older)) older fresh)
            ∙ sym (ap (λ l. l ++ []) (filter_kept (is_of (length older)) (new d now (Opens (opening (length older) d))) kp itself
            ∙ ap (λ l. new d now (Opens (opening (length older) d)) ∷ l) (none_filter (is_of (length older)) kp kp_fresh)));
        repeated = tt;
      };
      there = contains_first d k;
      asks_it = is;
      same = (
        (λ of. (refl, same_itself_all d)),
        all_second (λ q. is_of (length older) q ≡ false) (λ q. is_of (length older) q ≡ true → (is_request q ≡ true) × Same q.datagram d) (λ q other of. absurd (false≢true (sym other ∙ of))) kp kp_fresh,
      );
      top_same = λ top. same_itself_all d;
      others = (λ off. absurd (false≢true (sym off)), all_second (λ q. is_of (length older) q ≡ false) (OthersOf (length older)) (λ q other plain. other) (kp ++ rest) line_fresh);
    })

pub request_step : (c : Endpoint) (k : List Recorded) (older kp rest : List Placed) (x : Transfer) (d : Recorded) (now : ℕ) → Has c k older kp rest x → Follows c k d → asks_from c d ≡ true
    → live now (line c older) ≡ line c older → AllByRecursion (λ q. is_of (length older) q ≡ false) older → AllByRecursion (λ q. is_of (length older) q ≡ false) (line c older)
    → (y : Transfer) × Has c (d ∷ k) (new d now (place_asked (length older) d (line c older)) ∷ older) (new d now (place_asked (length older) d (line c older)) ∷ kp) rest y
request_step c k older [] rest x d now has follows is lived fresh line_fresh = absurd (has.some refl)
request_step c k older (q ∷ ps) rest x d now has follows is lived fresh line_fresh = by (is_asked c q (ps ++ rest) (length older) d has.plain.0) where
  Result : Place → Type 0
  Result place = (y : Transfer) × Has c (d ∷ k) (new d now place ∷ older) (new d now place ∷ q ∷ ps) rest y

  here : place_asked (length older) d (q ∷ ps ++ rest) ≡ place_asked (length older) d (line c older)
  here = ap (place_asked (length older) d) (sym has.whole)

  state : State c (d ∷ k) (new d now (Opens (opening (length older) d)) ∷ older) (new d now (Opens (opening (length older) d)) ∷ q ∷ ps) rest (opening (length older) d)
  state = by_test (list_any says_more (reach (q ∷ ps ++ rest)))
      (λ any. late_state c k older (q ∷ ps) rest d now (has.more any) is fresh (subst (AllByRecursion (λ p. is_of (length older) p ≡ false)) has.whole line_fresh))
      (λ none. again_state c k older (q ∷ ps) rest x d now has follows is none lived)

  by : IsAsked q (length older) d (place_asked (length older) d (q ∷ ps ++ rest)) → Result (place_asked (length older) d (line c older))
  by (opened place) = subst Result (sym place ∙ here) (
    opening (length older) d,
    open_has c k older (q ∷ ps) rest x d now has follows is lived
        (subst (AllByRecursion (λ p. is_of (length older) p ≡ false)) has.whole line_fresh) state,
  )
  by (repeated y request of again place) =
      let both : Some x ≡ Some y = sym (has.top request) ∙ of in
      let same : x ≡ y = cc in
      subst Result (ap Repeats same ∙ sym place ∙ here)
      (x, repeat_has c k older (q ∷ ps) rest x d now has request is follows.here lived (terms_repeat c k q ps rest x d now request again is has.terms) (repeat_state c k older q ps rest x d now request again is has.state))

-- ---- the first of the next capture

-- a transfer is opened whose number no datagram had before
fresh_asking : (c : Endpoint) (older rest : List Placed) (d : Recorded) (now : ℕ) → asks_from c d ≡ true → AllByRecursion (λ q. is_of (length older) q ≡ false) older
    → AllByRecursion (λ q. is_of (length older) q ≡ false) rest
    → Asking c (d ∷ []) (new d now (Opens (opening (length older) d)) ∷ older) (new d now (Opens (opening (length older) d)) ∷ []) rest (opening (length older) d)
fresh_asking c older rest d now is fresh rest_fresh =
    let itself : (length older == length older) ≡ true = eq-eqb (length older) (length older) refl in
    let p : Placed = new d now (Opens (opening (length older) d)) in
    record {
      none_came = ap (λ b. not b || false) (asks_goes c d is);
      asked = record {
        r = d;
        before = [];
        view = filter_kept (is_of (length older)) (new d now (Opens (opening (length older) d))) older itself
            ∙ ap (λ l. new d now (Opens (opening (length older) d)) ∷ l) (none_filter (is_of (length older)) older fresh)
            ∙ sym (ap (λ l. l ++ []) (filter_kept (is_of (length older)) (new d now (Opens (opening (length older) d))) [] itself));
        repeated = tt;
      };
      own = ((refl, itself, same_itself_all d), tt);
      others = (λ off. absurd (false≢true (sym off)), all_second (λ q. is_of (length older) q ≡ false) (OthersOf (length older)) (λ q other plain. other) rest rest_fresh);
    }

open_first : (c : Endpoint) (older rest : List Placed) (d : Recorded) (now : ℕ) → Follows c [] d → asks_from c d ≡ true → live now (line c older) ≡ rest
    → AllByRecursion (IsPlain c) rest → AllByRecursion (λ q. is_of (length older) q ≡ false) older → AllByRecursion (λ q. is_of (length older) q ≡ false) rest
    → Has c (d ∷ []) (new d now (Opens (opening (length older) d)) ∷ older) (new d now (Opens (opening (length older) d)) ∷ []) rest (opening (length older) d)
open_first c older rest d now follows is lived plain fresh rest_fresh =
    let client : d.source ≡ c = is_same d.source c (asks_goes c d is) in record {
      whole = line_here c (new d now (Opens (opening (length older) d))) older (ap (λ e. same_endpoint e c) client ∙ same_itself c) ∙ ap (λ l. new d now (Opens (opening (length older) d)) ∷ l) lived;
      some = λ none. absurd (cc);
      are = refl;
      known = (record { kind = sym is; here = follows.here }, tt);
      plain = (asks (opening (length older) d) refl refl, plain);
      latest = refl;
      client = client;
      top = λ request. refl;
      more = λ any. absurd (false≢true any);
      pure = λ top. refl;
      alike = λ e all. all.0 is;
      terms = terms_first c rest d now (length older) is rest_fresh;
      state = asking (fresh_asking c older rest d now is fresh rest_fresh);
    }

-- after a silence, or where nothing was before
pub begin_step : (c : Endpoint) (older : List Placed) (d : Recorded) (now : ℕ) → Follows c [] d → live now (line c older) ≡ [] → AllByRecursion (λ q. is_of (length older) q ≡ false) older
    → (rest : List Placed) × (y : Transfer) × Has c (d ∷ []) (new d now (place_asked (length older) d (live now (line c older))) ∷ older) (new d now (place_asked (length older) d (live now (line c older))) ∷ []) rest y
begin_step c older d now follows silent fresh =
    let here : place_asked (length older) d (live now (line c older)) ≡ opened_by (length older) d = ap (place_asked (length older) d) silent in
    subst (λ place. (rest : List Placed) × (y : Transfer) × Has c (d ∷ []) (new d now place ∷ older) (new d now place ∷ []) rest y) (sym here)
    ([], opening (length older) d, open_first c older [] d now follows (follows.first refl) silent tt fresh tt)

repeat_first : (c : Endpoint) (k : List Recorded) (older : List Placed) (q : Placed) (ps rest : List Placed) (x : Transfer) (d : Recorded) (now : ℕ) → Has c k older (q ∷ ps) rest x → Follows c [] d
    → is_request q ≡ true → is_again q.datagram d ≡ true → live now (line c older) ≡ line c older
    → Has c (d ∷ []) (new d now (Repeats x) ∷ older) (new d now (Repeats x) ∷ []) (q ∷ ps ++ rest) x
repeat_first c k older q ps rest x d now has follows request again lived =
    let is : asks_from c d ≡ true = follows.first refl in record {
      whole = line_here c (new d now (Repeats x)) older (ap (λ e. same_endpoint e c) has.client ∙ same_itself c) ∙ ap (λ l. new d now (Repeats x) ∷ l) (lived ∙ has.whole);
      some = λ none. absurd (cc);
      are = refl;
      known = (record { kind = sym is; here = follows.here }, tt);
      plain = (asks x refl refl, has.plain);
      latest = has.latest;
      client = has.client;
      top = λ at. refl;
      more = λ any. absurd (false≢true (sym (has.pure request) ∙ any));
      pure = λ top. has.pure request;
      alike = λ e all. all.0 is;
      terms = terms_repeat_first c k q ps rest x d now request again is has.terms;
      state = by has.state;
    }
  where
    is : asks_from c d ≡ true
    is = follows.first refl

    by : State c k older (q ∷ ps) rest x → State c (d ∷ []) (new d now (Repeats x) ∷ older) (new d now (Repeats x) ∷ []) (q ∷ ps ++ rest) x
    by (doubted already) = doubted (doubted_more x.number (new d now (Repeats x)) older already)
    by (waiting a) = absurd (false≢true (sym a.ends ∙ request))
    by (misled a) = absurd (false≢true (sym a.ends ∙ request))
    by (answered a) = absurd (false≢true (sym a.ends ∙ request))
    by (taken a) = absurd (false≢true (sym a.ends ∙ request))
    by (mixed a) = absurd (false≢true (sym a.ends ∙ request))
    by (reopened a) = asking (record {
      none_came = ap (λ b. not b || false) (asks_goes c d is);
      asked = record {
        r = a.asked.r;
        before = filter (is_of x.number) (q ∷ ps) ++ a.asked.before;
        view = filter_kept (is_of x.number) (new d now (Repeats x)) older (eq-eqb x.number x.number refl) ∙ ap (λ l. new d now (Repeats x) ∷ l) a.asked.view
            ∙ sym (ap (λ l. l ++ (filter (is_of x.number) (q ∷ ps) ++ a.asked.before)) (filter_kept (is_of x.number) (new d now (Repeats x)) [] (eq-eqb x.number x.number refl)));
        repeated = all_and (λ p. (is_request p ≡ true) × Same p.datagram a.asked.r) (filter (is_of x.number) (q ∷ ps)) a.asked.before
            (filter_told (λ p. (is_request p ≡ true) × Same p.datagram a.asked.r) (is_of x.number) (q ∷ ps) a.same) a.asked.repeated;
      };
      own = ((refl, eq-eqb x.number x.number refl, same_back q.datagram d a.asked.r (again_same q.datagram d again) (a.top_same request)), tt);
      others = (λ off. absurd (false≢true (sym off)), a.others);
    })
    by (asking a) = asking (record {
      none_came = ap (λ b. not b || false) (asks_goes c d is);
      asked = record {
        r = a.asked.r;
        before = filter (is_of x.number) (q ∷ ps) ++ a.asked.before;
        view = filter_kept (is_of x.number) (new d now (Repeats x)) older (eq-eqb x.number x.number refl) ∙ ap (λ l. new d now (Repeats x) ∷ l) a.asked.view
            ∙ sym (ap (λ l. l ++ (filter (is_of x.number) (q ∷ ps) ++ a.asked.before)) (filter_kept (is_of x.number) (new d now (Repeats x)) [] (eq-eqb x.number x.number refl)));
        repeated = all_and (λ p. (is_request p ≡ true) × Same p.datagram a.asked.r) (filter (is_of x.number) (q ∷ ps)) a.asked.before
            (all_filter (λ p. (is_request p ≡ true) × Same p.datagram a.asked.r) (is_of x.number) (q ∷ ps)
            (all_second (λ p. (is_request p ≡ true) × (is_of x.number p ≡ true) × Same p.datagram a.asked.r) (λ p. (is_request p ≡ true) × Same p.datagram a.asked.r) (λ p own. (own.0, own.2)) (q ∷ ps) a.own)) a.asked.repeated;
      };
      own = ((refl, eq-eqb x.number x.number refl, same_back q.datagram d a.asked.r (again_same q.datagram d again) a.own.0.2), tt);
      others = (λ off. absurd (false≢true (sym off)), a.others);
    })

-- where the line goes on
pub next_step : (c : Endpoint) (k : List Recorded) (older kp rest : List Placed) (x : Transfer) (d : Recorded) (now : ℕ) → Has c k older kp rest x → Follows c [] d
    → live now (line c older) ≡ line c older → AllByRecursion (λ q. is_of (length older) q ≡ false) older → AllByRecursion (λ q. is_of (length older) q ≡ false) (line c older)
    → (more : List Placed) × (y : Transfer) × Has c (d ∷ []) (new d now (place_asked (length older) d (line c older)) ∷ older) (new d now (place_asked (length older) d (line c older)) ∷ []) more y
next_step c k older [] rest x d now has follows lived fresh line_fresh = absurd (has.some refl)
next_step c k older (q ∷ ps) rest x d now has follows lived fresh line_fresh = by (is_asked c q (ps ++ rest) (length older) d has.plain.0) where
  Result : Place → Type 0
  Result place = (more : List Placed) × (y : Transfer) × Has c (d ∷ []) (new d now place ∷ older) (new d now place ∷ []) more y

  here : place_asked (length older) d (q ∷ ps ++ rest) ≡ place_asked (length older) d (line c older)
  here = ap (place_asked (length older) d) (sym has.whole)

  by : IsAsked q (length older) d (place_asked (length older) d (q ∷ ps ++ rest)) → Result (place_asked (length older) d (line c older))
  by (opened place) = subst Result (sym place ∙ here) (
    q ∷ ps ++ rest,
    opening (length older) d,
    open_first c older (q ∷ ps ++ rest) d now follows (follows.first refl) (lived ∙ has.whole) has.plain fresh
        (subst (AllByRecursion (λ p. is_of (length older) p ≡ false)) has.whole line_fresh),
  )
  by (repeated y request of again place) =
      let both : Some x ≡ Some y = sym (has.top request) ∙ of in
      let same : x ≡ y = cc in
      subst Result (ap Repeats same ∙ sym place ∙ here) (q ∷ ps ++ rest, x, repeat_first c k older q ps rest x d now has follows request again lived)
