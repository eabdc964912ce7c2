-- A line after one datagram more that is no request.
use Rattle.std.proofs.Common.{◌≡◌, ℕ, Bool, true, false, List, [], ◌∷◌, Option, Some, None, cond, refl, sym, ap, subst, ◌∙◌, ◌==◌, ◌&&◌, ◌||◌, not, nat_lt, option_map, if◌then◌else◌}
use Rattle.std.specs.List.{list_any}
use Rattle.std.specs.Str.{bytes_eq}
use Rattle.std.specs.BTreeMap.{get, BTreeMap}
use Rattle.std.specs.Ordering.{is_eq, nat_cmp}
use Rattle.law_model.specs.Rules.{or_this}
use Rattle.audit_flows.specs.Lines.{Recorded, same_endpoint, endpoint_cmp, is_between, Placed, opens, is_request, newest_of, latest_in, reach, answers, answered_in, talked_of, talk_in, place_asked, IsLineOf, seen_of, asked_by, history_of, opened_by, place_of_talk, comes_to, surely_after, talk_after, ends_after, went_on_after, AreTimed, is_past, is_unknown_talk, is_word, spoken_after, spoken_of, unknown_after, unknown_of, answers_surely, asked_part, is_unanswered, leaves_unanswered, says_more, is_alike_in, is_later}
use Rattle.audit_flows.specs.declared.lines.endpoint.Endpoint.{Endpoint}
use Rattle.audit_flows.specs.declared.lines.place.Place.TheVariants.{Repeats}
use Rattle.audit_flows.specs.declared.lines.place.Transfer.{Transfer}
use Rattle.audit_flows.specs.declared.lines.line.Line.{Line}
use Rattle.audit_flows.proofs.LinesLemmas.Endpoints.{same_by_order, is_same}
use Rattle.audit_flows.specs.Lines.{is_talk, IsHistoryOf}
use Rattle.audit_flows.specs.declared.lines.history.History.{History}
use Rattle.audit_flows.specs.declared.lines.line.Talked.{Talked}
use Rattle.audit_flows.specs.Lines.Kept.{IsHistoryAfter}
use Rattle.audit_flows.proofs.LinesLemmas.Lines.{answered_more, by_test, not_between, talk_more}
use Rattle.audit_flows.proofs.LinesLemmas.Histories.{history_more, history_same}

-- ---- the line after it

abbrev talk_placed : Endpoint → Recorded → ℕ → Option Transfer → Placed
talk_placed c d now talked = record { datagram = d; moment = now; place = place_of_talk c talked }

opens_none : (c : Endpoint) (talked : Option Transfer) (d : Recorded) (now : ℕ) → opens (talk_placed c d now talked) ≡ false
opens_none c None d now = refl
opens_none c (Some x) d now = refl

asks_none : (c : Endpoint) (talked : Option Transfer) (d : Recorded) (now : ℕ) → is_request (talk_placed c d now talked) ≡ false
asks_none c None d now = refl
asks_none c (Some x) d now = refl

talked_again : (c : Endpoint) (talked : Option Transfer) → talked_of (place_of_talk c talked) ≡ talked
talked_again c None = refl
talked_again c (Some x) = refl

answers_as : (c : Endpoint) (x : Transfer) (talked : Option Transfer) (d : Recorded) (now : ℕ) → answers x (talk_placed c d now talked) ≡ comes_to x talked (seen_of d)
answers_as c x None d now = refl
answers_as c x (Some y) d now = refl

opened_anew : (x : Transfer) (number : ℕ) (d e : Recorded) (line : List Placed) (now : ℕ) (c : Endpoint)
    → place_asked number e (talk_placed c d now (Some x) ∷ line) ≡ opened_by number e
opened_anew x number d e line now c = refl

asked_more : (old new : Line) (line : List Placed) (c : Endpoint) (talked : Option Transfer) (d e : Recorded) (now number : ℕ) → place_asked number e line ≡ asked_by old number e
    → new.latest ≡ old.latest → new.request.items ≡ old.request.items → new.ends_in_request ≡ ends_after talked old.ends_in_request
    → place_asked number e (talk_placed c d now talked ∷ line) ≡ asked_by new number e
asked_more old new line c None d e now number before latest request ends = before ∙ sym (λ i.
    if ends i && bytes_eq (request i) e.payload && same_endpoint (latest i).asked e.target then Repeats (latest i)
    else opened_by number e)
asked_more old new line c (Some x) d e now number before latest request ends = opened_anew x number d e line now c ∙ sym (λ i.
    if ends i && bytes_eq (request i) e.payload && same_endpoint (latest i).asked e.target then Repeats (latest i)
    else opened_by number e)

-- what the line keeps after it
pub record IsNoted (old new : Line) (o : Endpoint) (talked : Option Transfer) (d : Recorded) (now : ℕ) : Type 0 where
  pub latest : new.latest ≡ old.latest
  pub answered : new.answered ≡ or_this old.answered (comes_to old.latest talked (seen_of d)) d.source
  pub moment : new.moment ≡ now
  pub request : new.request.items ≡ old.request.items
  pub ends : new.ends_in_request ≡ ends_after talked old.ends_in_request
  pub talks : (q : Endpoint) → option_map (λ t. t.talk) (get endpoint_cmp new.talks q)
      ≡ cond (is_eq (endpoint_cmp o q)) (Some (talk_after old.latest.client o talked (seen_of d) (option_map (λ t. t.talk) (get endpoint_cmp old.talks o)))) (option_map (λ t. t.talk) (get endpoint_cmp old.talks q))
  pub histories : (q : Endpoint) → history_of (get endpoint_cmp new.talks q)
      ≡ cond (is_eq (endpoint_cmp o q)) (history_of (get endpoint_cmp new.talks o)) (history_of (get endpoint_cmp old.talks q))
  pub history : IsHistoryAfter (history_of (get endpoint_cmp old.talks o)) (history_of (get endpoint_cmp new.talks o)) old.latest.client talked (seen_of d)
  pub unknowns : (q : Endpoint) → unknown_of (get endpoint_cmp new.talks q)
      ≡ cond (is_eq (endpoint_cmp o q)) (unknown_after talked (seen_of d) (unknown_of (get endpoint_cmp old.talks o))) (unknown_of (get endpoint_cmp old.talks q))
  pub spoken : (q : Endpoint) → spoken_of (get endpoint_cmp new.talks q)
      ≡ cond (is_eq (endpoint_cmp o q)) (spoken_after (seen_of d) (spoken_of (get endpoint_cmp old.talks o))) (spoken_of (get endpoint_cmp old.talks q))
  pub went_on : new.went_on ≡ went_on_after talked (seen_of d) old.went_on
  pub surely : new.is_answered ≡ surely_after old.latest.number talked (seen_of d) old.is_answered
  pub left : new.left_unanswered ≡ old.left_unanswered
  pub newest : AreTimed old.newest new.newest talked d.time

says_after : (c : Endpoint) (talked : Option Transfer) (d : Recorded) (now : ℕ) (before : Bool) → (says_more (talk_placed c d now talked) || before) ≡ went_on_after talked (seen_of d) before
says_after c None d now before = refl
says_after c (Some x) d now before = refl

answers_after : (c : Endpoint) (n : ℕ) (talked : Option Transfer) (d : Recorded) (now : ℕ) (before : Bool)
    → (answers_surely n (talk_placed c d now talked) || before) ≡ surely_after n talked (seen_of d) before
answers_after c n None d now before = refl
answers_after c n (Some x) d now before = refl

times_after : (old new : BTreeMap ℕ ℕ) (c : Endpoint) (talked : Option Transfer) (d : Recorded) (now n at : ℕ) (line : List Placed) → AreTimed old new talked d.time
    → list_any (is_later n at) line ≡ is_past at (get nat_cmp old n) → list_any (is_later n at) (talk_placed c d now talked ∷ line) ≡ is_past at (get nat_cmp new n)
times_after old new c None d now n at line same before = before ∙ ap (λ m. is_past at (get nat_cmp m n)) (sym same)
times_after old new c (Some x) d now n at line timed before = ap (λ b. ((x.number == n) && nat_lt at d.time) || b) before ∙ sym (timed n at)

-- ---- what was said before

pub cond_talk : (b : Bool) (new : Talked) (old : Option Talked) → option_map (λ t. t.talk) (cond b (Some new) old) ≡ cond b (Some new.talk) (option_map (λ t. t.talk) old)
cond_talk true new old = refl
cond_talk false new old = refl

pub cond_history : (b : Bool) (new : Talked) (old : Option Talked) → history_of (cond b (Some new) old) ≡ cond b new.history (history_of old)
cond_history true new old = refl
cond_history false new old = refl

no_talk : (c o q : Endpoint) (talked : Option Transfer) (d : Recorded) (now : ℕ) → is_between c o d ≡ true → same_endpoint o q ≡ false → is_talk c q (talk_placed c d now talked) ≡ false
no_talk c o q None d now between other = refl
no_talk c o q (Some x) d now between other = not_between c o q d between other

history_here : (c o : Endpoint) (talked : Option Transfer) (d : Recorded) (now : ℕ) (line : List Placed) (old new : Option History) → is_between c o d ≡ true → IsHistoryOf c o line old
    → IsHistoryAfter old new c talked (seen_of d) → IsHistoryOf c o (talk_placed c d now talked ∷ line) new
history_here c o None d now line old new between is after = subst (IsHistoryOf c o (talk_placed c d now None ∷ line)) (sym after) (history_same c o (talk_placed c d now None) line old refl is)
history_here c o (Some x) d now line old (Some h) between is after = history_more c o d now x line old h between is after
history_here c o (Some x) d now line old None between is after = absurd after

histories_after : (old new : Line) (o : Endpoint) (talked : Option Transfer) (d : Recorded) (now : ℕ) (line : List Placed) → IsNoted old new o talked d now
    → is_between old.latest.client o d ≡ true → IsLineOf old line → (q : Endpoint) → IsHistoryOf old.latest.client q (talk_placed old.latest.client d now talked ∷ line) (history_of (get endpoint_cmp new.talks q))
histories_after old new o talked d now line noted between stands q =
    let c : Endpoint = old.latest.client in
    let p : Placed = talk_placed old.latest.client d now talked in
    by_test (same_endpoint o q)
    (λ is. subst (λ e. IsHistoryOf c e (p ∷ line) (history_of (get endpoint_cmp new.talks e))) (is_same o q is)
    (history_here c o talked d now line (history_of (get endpoint_cmp old.talks o)) (history_of (get endpoint_cmp new.talks o)) between (stands.histories o) noted.history))
    (λ off. subst (IsHistoryOf c q (p ∷ line))
    (sym (noted.histories q ∙ ap (λ b. cond b (history_of (get endpoint_cmp new.talks o)) (history_of (get endpoint_cmp old.talks q))) (same_by_order o q ∙ off)))
    (history_same c q p line (history_of (get endpoint_cmp old.talks q)) (no_talk c o q talked d now between off) (stands.histories q)))

pub cond_unknown : (b : Bool) (new : Talked) (old : Option Talked) → unknown_of (cond b (Some new) old) ≡ cond b new.says_unknown_id (unknown_of old)
cond_unknown true new old = refl
cond_unknown false new old = refl

unknown_here : (c o : Endpoint) (talked : Option Transfer) (d : Recorded) (now : ℕ) (before : Bool) → is_between c o d ≡ true
    → (is_unknown_talk c o (talk_placed c d now talked) || before) ≡ unknown_after talked (seen_of d) before
unknown_here c o None d now before between = refl
unknown_here c o (Some x) d now before between = rw between refl

unknown_apart : (c o q : Endpoint) (talked : Option Transfer) (d : Recorded) (now : ℕ) → is_between c o d ≡ true → same_endpoint o q ≡ false → is_unknown_talk c q (talk_placed c d now talked) ≡ false
unknown_apart c o q None d now between other = refl
unknown_apart c o q (Some x) d now between other = rw (not_between c o q d between other) refl

unknowns_after : (old new : Line) (o : Endpoint) (talked : Option Transfer) (d : Recorded) (now : ℕ) (line : List Placed) → IsNoted old new o talked d now
    → is_between old.latest.client o d ≡ true → IsLineOf old line → (q : Endpoint)
    → list_any (is_unknown_talk old.latest.client q) (talk_placed old.latest.client d now talked ∷ line) ≡ unknown_of (get endpoint_cmp new.talks q)
unknowns_after old new o talked d now line noted between stands q =
    let c : Endpoint = old.latest.client in
    let p : Placed = talk_placed old.latest.client d now talked in
    let kept : unknown_of (get endpoint_cmp new.talks q) ≡ cond (same_endpoint o q) (unknown_after talked (seen_of d) (unknown_of (get endpoint_cmp old.talks o))) (unknown_of (get endpoint_cmp old.talks q)) =
    noted.unknowns q ∙ ap (λ b. cond b (unknown_after talked (seen_of d) (unknown_of (get endpoint_cmp old.talks o))) (unknown_of (get endpoint_cmp old.talks q))) (same_by_order o q) in
    by_test (same_endpoint o q)
    (λ is. ap (λ e. list_any (is_unknown_talk c e) (p ∷ line)) (sym (is_same o q is))
    ∙ unknown_here c o talked d now (list_any (is_unknown_talk c o) line) between
    ∙ ap (unknown_after talked (seen_of d)) (stands.unknown o)
    ∙ sym (kept ∙ ap (λ b. cond b (unknown_after talked (seen_of d) (unknown_of (get endpoint_cmp old.talks o))) (unknown_of (get endpoint_cmp old.talks q))) is))
    (λ off. ap (λ b. b || list_any (is_unknown_talk c q) line) (unknown_apart c o q talked d now between off)
    ∙ stands.unknown q
    ∙ sym (kept ∙ ap (λ b. cond b (unknown_after talked (seen_of d) (unknown_of (get endpoint_cmp old.talks o))) (unknown_of (get endpoint_cmp old.talks q))) off))

pub cond_spoken : (b : Bool) (new : Talked) (old : Option Talked) → spoken_of (cond b (Some new) old) ≡ cond b new.has_spoken (spoken_of old)
cond_spoken true new old = refl
cond_spoken false new old = refl

word_here : (c o : Endpoint) (talked : Option Transfer) (d : Recorded) (now : ℕ) (before : Bool) → is_between c o d ≡ true
    → (is_word c o (talk_placed c d now talked) || before) ≡ spoken_after (seen_of d) before
word_here c o None d now before between = rw between refl
word_here c o (Some x) d now before between = rw between refl

word_apart : (c o q : Endpoint) (talked : Option Transfer) (d : Recorded) (now : ℕ) → is_between c o d ≡ true → same_endpoint o q ≡ false → is_word c q (talk_placed c d now talked) ≡ false
word_apart c o q None d now between other = rw (not_between c o q d between other) refl
word_apart c o q (Some x) d now between other = rw (not_between c o q d between other) refl

spoken_since : (old new : Line) (o : Endpoint) (talked : Option Transfer) (d : Recorded) (now : ℕ) (line : List Placed) → IsNoted old new o talked d now
    → is_between old.latest.client o d ≡ true → IsLineOf old line → (q : Endpoint)
    → list_any (is_word old.latest.client q) (talk_placed old.latest.client d now talked ∷ line) ≡ spoken_of (get endpoint_cmp new.talks q)
spoken_since old new o talked d now line noted between stands q =
    let c : Endpoint = old.latest.client in
    let p : Placed = talk_placed old.latest.client d now talked in
    let kept : spoken_of (get endpoint_cmp new.talks q) ≡ cond (same_endpoint o q) (spoken_after (seen_of d) (spoken_of (get endpoint_cmp old.talks o))) (spoken_of (get endpoint_cmp old.talks q)) =
    noted.spoken q ∙ ap (λ b. cond b (spoken_after (seen_of d) (spoken_of (get endpoint_cmp old.talks o))) (spoken_of (get endpoint_cmp old.talks q))) (same_by_order o q) in
    by_test (same_endpoint o q)
    (λ is. ap (λ e. list_any (is_word c e) (p ∷ line)) (sym (is_same o q is))
    ∙ word_here c o talked d now (list_any (is_word c o) line) between
    ∙ ap (spoken_after (seen_of d)) (stands.spoken o)
    ∙ sym (kept ∙ ap (λ b. cond b (spoken_after (seen_of d) (spoken_of (get endpoint_cmp old.talks o))) (spoken_of (get endpoint_cmp old.talks q))) is))
    (λ off. ap (λ b. b || list_any (is_word c q) line) (word_apart c o q talked d now between off)
    ∙ stands.spoken q
    ∙ sym (kept ∙ ap (λ b. cond b (spoken_after (seen_of d) (spoken_of (get endpoint_cmp old.talks o))) (spoken_of (get endpoint_cmp old.talks q))) off))

pub note_stands : (old new : Line) (o : Endpoint) (talked : Option Transfer) (d : Recorded) (now : ℕ) (line : List Placed) → IsNoted old new o talked d now
    → is_between old.latest.client o d ≡ true → IsLineOf old line → IsLineOf new (talk_placed old.latest.client d now talked ∷ line)
note_stands old new o talked d now line noted between stands =
    let c : Endpoint = old.latest.client in
    let p : Placed = talk_placed old.latest.client d now talked in
    let shut : opens (talk_placed old.latest.client d now talked) ≡ false = opens_none old.latest.client talked d now in
    let plain : is_request (talk_placed old.latest.client d now talked) ≡ false = asks_none old.latest.client talked d now in
    let latest : latest_in (talk_placed old.latest.client d now talked ∷ line) ≡ Some new.latest = (rw shut stands.latest) ∙ ap Some (sym noted.latest) in
    record {
      latest = latest;
      answered = ap (λ x. answered_in x (p ∷ line)) noted.latest ∙ answered_more old.latest p line shut
          ∙ (λ i. or_this (stands.answered i) (answers_as old.latest.client old.latest talked d now i) d.source) ∙ sym noted.answered;
      moment = sym noted.moment;
      asked = λ number e from. asked_more old new line old.latest.client talked d e now number (stands.asked number e (from ∙ ap (λ x. x.client) noted.latest)) noted.latest noted.request noted.ends;
      talks = λ q. noted.talks q
          ∙ (λ i. cond (same_by_order o q i)
          (Some (talk_after old.latest.client o (sym (talked_again old.latest.client talked) i) (seen_of d) (stands.talks o i))) (stands.talks q i))
          ∙ sym (talk_more old.latest.client o q p line plain between)
          ∙ ap (λ x. talk_in x.client q (p ∷ line)) (sym noted.latest);
      histories = λ q. subst (λ x. IsHistoryOf x.client q (p ∷ line) (history_of (get endpoint_cmp new.talks q))) (sym noted.latest)
          (histories_after old new o talked d now line noted between stands q);
      unknown = λ q. ap (λ x. list_any (is_unknown_talk x.client q) (p ∷ line)) noted.latest
          ∙ unknowns_after old new o talked d now line noted between stands q;
      again = λ e from. ap (λ b. is_alike_in e (if b then Some p else newest_of is_request line)) plain
          ∙ stands.again e (from ∙ ap (λ x. x.client) noted.latest)
          ∙ (λ i. bytes_eq (asked_part (sym noted.request i)) (asked_part e.payload) && same_endpoint (sym noted.latest i).asked e.target);
      spoken = λ q. ap (λ x. list_any (is_word x.client q) (p ∷ line)) noted.latest
          ∙ spoken_since old new o talked d now line noted between stands q;
      went_on = ap (λ b. list_any says_more (if b then [] else p ∷ reach line)) shut
          ∙ says_after old.latest.client talked d now (list_any says_more (reach line))
          ∙ ap (went_on_after talked (seen_of d)) stands.went_on ∙ sym noted.went_on;
      surely = ap (λ x. list_any (answers_surely x.number) (reach (p ∷ line))) noted.latest
          ∙ ap (λ b. list_any (answers_surely old.latest.number) (if b then [] else p ∷ reach line)) shut
          ∙ answers_after old.latest.client old.latest.number talked d now (list_any (answers_surely old.latest.number) (reach line))
          ∙ ap (surely_after old.latest.number talked (seen_of d)) stands.surely ∙ sym noted.surely;
      left = ap (λ b. (b && is_unanswered line (latest_in line)) || leaves_unanswered line) shut ∙ stands.left ∙ sym noted.left;
      newest = λ n at. times_after old.newest new.newest old.latest.client talked d now n at line noted.newest (stands.newest n at);
    }
