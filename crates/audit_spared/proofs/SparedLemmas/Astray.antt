-- Where the first that came in a transfer was a stray, its client never goes on with who sent that: it is led astray.
use Rattle.std.proofs.Common.{◌≡◌, ◌⊎◌, ℕ, Bool, true, false, List, [], ◌∷◌, ◌++◌, Contains, Option, Some, None, inl, inr, refl, sym, ap, subst, ◌∙◌, ◌==◌, ◌&&◌, ◌||◌, not, map, if◌then◌else◌}
use Rattle.std.specs.List.{AllByRecursion}
use Rattle.std.proofs.lemmas.Bool.{false≢true, or_cases, or_left, or_right, and_from, and_parts, eqb-true}
use Rattle.law_model.specs.Rules.{first_of, or_this}
use Rattle.law_model.proofs.ModelLemmas.Members.{contains_cases, contains_first, contains_later, contains_none}
use Rattle.audit_flows.specs.Lines.{Recorded, Placed, same_endpoint, other_of, is_of, is_request, live, line, latest_in, answered_in, answers, begins_unknown_id, comes_in, goes_on_with_first, is_late, is_another}
use Rattle.audit_flows.specs.{Address, Endpoint, Place, Talks, Transfer}
use Rattle.audit_flows.specs.Lines.Doubting.{answered_last, is_the_one}
use Rattle.audit_flows.proofs.LinesLemmas.Endpoints.{is_same, same_itself}
use Rattle.audit_flows.proofs.LinesLemmas.Lines.{answered_more, by_test}
use Rattle.audit_flows.specs.Transfers.{client_view, place_of, some_of}
use Rattle.audit_flows.proofs.TransfersLemmas.AllLines.{line_here}
use Rattle.audit_spared.proofs.FairLemmas.Thinned.{filter_kept, filter_dropped, kept_or_not}
use Rattle.audit_spared.specs.Spared.Seen.{is_with}
use Rattle.audit_spared.specs.Spared.{goes_from, is_doubted_there}
use Rattle.audit_spared.proofs.SparedLemmas.Basics.{doubted_more}
use Rattle.audit_spared.proofs.SparedLemmas.Strays.{AreTold, IsStrayedAt, in_time_strayed, says_unknown_id}
use Rattle.audit_spared.proofs.SparedLemmas.Places.{of_talk}
use Rattle.audit_spared.proofs.SparedLemmas.Spared.{rest_same}
use Rattle.audit_spared.proofs.SparedLemmas.Stands.{new, IsPlain, talks, State, doubted, asking, waiting, misled, answered, reopened, taken, mixed, Opened, Has, came_in}
use Rattle.audit_spared.proofs.SparedLemmas.Stands.IsPlain.{asks as asked}
use Rattle.audit_spared.proofs.SparedLemmas.Talks.{view_first}

-- ---- of a whole recording

pub view_whole : (n : ℕ) (newer older : List Placed) (q : Placed) → first_of came_in (client_view n older) ≡ Some q → first_of came_in (client_view n (newer ++ older)) ≡ Some q
view_whole n [] older q found = found
view_whole n (p ∷ newer) older q found = view_first n p q (newer ++ older) (view_whole n newer older q found)

-- something came, where something is first
pub came_some : (n : ℕ) (older : List Placed) (q : Placed) → first_of came_in (client_view n older) ≡ Some q → some_of n comes_in older ≡ true
came_some n [] q found = absurd (cc)
came_some n (p ∷ older) q found = kept_or_not (is_of n) p
    (λ is. let here : first_of came_in (p ∷ client_view n older) ≡ Some q = sym (ap (first_of came_in) (filter_kept (is_of n) p older is)) ∙ found in
    by is here (λ before. came_some n older q before) (first_of came_in (client_view n older)) refl)
    (λ off. or_right (is_of n p && comes_in p older) (some_of n comes_in older) (came_some n older q (sym (ap (first_of came_in) (filter_dropped (is_of n) p older off)) ∙ found)))
  where
    by : is_of n p ≡ true → first_of came_in (p ∷ client_view n older) ≡ Some q → (first_of came_in (client_view n older) ≡ Some q → some_of n comes_in older ≡ true)
        → (first : Option Placed) → first_of came_in (client_view n older) ≡ first → some_of n comes_in (p ∷ older) ≡ true
    by is here earlier (Some r) before =
        let both : Some r ≡ Some q = sym (ap (λ o. or_this o (came_in p) p) before) ∙ here in
        or_right (is_of n p && comes_in p older) (some_of n comes_in older) (earlier (before ∙ both))
    by is here earlier None before = by_test (came_in p)
        (λ came. or_left (is_of n p && comes_in p older) (some_of n comes_in older) (and_from (is_of n p) (comes_in p older) is came))
        (λ off. let none : None ≡ Some q = sym (ap (λ o. or_this o (came_in p) p) before ∙ ap (λ b. or_this None b p) off) ∙ here in absurd (cc))

-- no request goes on
request_on : (d : Recorded) (now : ℕ) (place : Place) (older : List Placed) → is_request (new d now place) ≡ true → goes_on_with_first (new d now place) older ≡ true → ⊥
request_on d now (Talks y) older is on = false≢true is
request_on d now _ older is on = false≢true on

the_one : (o : Endpoint) (found : Option Endpoint) → is_the_one o found ≡ true → found ≡ Some o
the_one o None is = absurd (false≢true is)
the_one o (Some first) is = ap Some (sym (is_same o first is))

-- ---- with whom its client goes on, the first that came was no stray

module _ (write : Address → List ℕ) (write_one : (a b : Address) → write a ≡ write b → a ≡ b) (strays : Recorded → Bool) (c : Endpoint) where
  abbrev pub IsSteady : ℕ → List Placed → Type 0
  IsSteady n older = (is_doubted_there n older ≡ true) ⊎ ((q : Placed) × (first_of came_in (client_view n older) ≡ Some q) × (strays q.datagram ≡ false))

  abbrev pub GoesOnSteady : ℕ → List Placed → Type 0
  GoesOnSteady n older = some_of n goes_on_with_first older ≡ true → IsSteady n older

  steady_more : (n : ℕ) (p : Placed) (older : List Placed) → IsSteady n older → IsSteady n (p ∷ older)
  steady_more n p older is = elim is [
    | inl doubt ↦ inl (doubted_more n p older doubt)
    | inr found ↦ inr (found.0, view_first n p found.0 older found.1, found.2)
  ]

  pub steady_none : (n : ℕ) → GoesOnSteady n []
  steady_none n any = absurd (false≢true any)

  pub steady_other : (n : ℕ) (p : Placed) (older : List Placed) → is_of n p ≡ false → GoesOnSteady n older → GoesOnSteady n (p ∷ older)
  steady_other n p older off before any = steady_more n p older (before (sym (ap (λ b. (b && goes_on_with_first p older) || some_of n goes_on_with_first older) off) ∙ any))

  -- whom the client tells what is no ERROR 5, from there no stray came
  first_kept : (k : List Recorded) (older kp : List Placed) (n : ℕ) (d : Recorded) (now : ℕ) (place : Place) → map (λ p. p.datagram) (new d now place ∷ kp) ≡ k → IsStrayedAt write strays c k
      → (a : Opened c older (new d now place ∷ kp) n) → goes_from c d ≡ true → begins_unknown_id d.payload ≡ false → d.target ≡ other_of c a.opener.datagram → strays a.opener.datagram ≡ false
  first_kept k older kp n d now place are s a from known target = same_here ∙ off where
    apart : AreTold strays c (d ∷ map (λ p. p.datagram) kp)
    apart = subst (AreTold strays c) (sym are) s.apart

    off : strays d ≡ false
    off = by_test (strays d) (λ is. let said = ((apart.0 is).told from).0 in absurd (false≢true (sym known ∙ says_unknown_id d.payload said.0 said.1))) (λ none. none)

    other : other_of c a.opener.datagram ≡ other_of c d
    other = sym target ∙ sym (ap (λ b. if b then d.target else d.source) from)

    inside : (newer early_ones : List Placed) (q : Placed) → Contains (newer ++ q ∷ early_ones) q
    inside [] early_ones q = contains_first q early_ones
    inside (p ∷ newer) early_ones q = contains_later p (newer ++ q ∷ early_ones) q (inside newer early_ones q)

    mapped : (P : Recorded → Type 0) (ps : List Placed) (q : Placed) → Contains ps q → AllByRecursion P (map (λ p. p.datagram) ps) → P q.datagram
    mapped P [] q there all = absurd (contains_none q there)
    mapped P (p ∷ ps) q there all = elim (contains_cases p ps q there) [
      | inl this ↦ subst (λ e. P e.datagram) this all.0
      | inr later ↦ mapped P ps q later all.1
    ]

    there : Contains (new d now place ∷ kp) a.opener
    there = subst (λ l. Contains l a.opener) (sym a.split) (inside a.newer a.early a.opener)

    same_here : strays a.opener.datagram ≡ strays d
    same_here = elim (contains_cases (new d now place) kp a.opener there) [
      | inl this ↦ ap (λ (p : Placed). strays p.datagram) (sym this)
      | inr later ↦ mapped (λ e. other_of c e ≡ other_of c d → strays e ≡ strays d) kp a.opener later apart.1 other
    ]

  module _ (n : ℕ) (k : List Recorded) (older kp rest : List Placed) (x z : Transfer) (d : Recorded) (now : ℕ) (has : Has c k (new d now (Talks z) ∷ older) (new d now (Talks z) ∷ kp) rest x)
      (client : z.client ≡ c) (s : IsStrayedAt write strays c k) (of : (z.number == n) ≡ true) (on : goes_on_with_first (new d now (Talks z)) older ≡ true) where
    abbrev p : Placed
    p = new d now (Talks z)

    lived : live now (line c older) ≡ kp ++ rest
    lived = rest_same p (live now (line c older)) (kp ++ rest) (sym (line_here c p older (ap (λ e. same_endpoint e c) client ∙ same_itself c)) ∙ has.whole)

    three : (((same_endpoint d.source z.client && not (begins_unknown_id d.payload)) && not (is_late p older)) ≡ true) × (is_the_one d.target (answered_last (live now (line z.client older))) ≡ true)
    three = and_parts ((same_endpoint d.source z.client && not (begins_unknown_id d.payload)) && not (is_late p older)) (is_the_one d.target (answered_last (live now (line z.client older)))) on

    two : ((same_endpoint d.source z.client && not (begins_unknown_id d.payload)) ≡ true) × (not (is_late p older) ≡ true)
    two = and_parts (same_endpoint d.source z.client && not (begins_unknown_id d.payload)) (not (is_late p older)) three.0

    one : (same_endpoint d.source z.client ≡ true) × (not (begins_unknown_id d.payload) ≡ true)
    one = and_parts (same_endpoint d.source z.client) (not (begins_unknown_id d.payload)) two.0

    from : goes_from c d ≡ true
    from = subst (λ e. same_endpoint d.source e ≡ true) client one.0

    known : begins_unknown_id d.payload ≡ false
    known = by_test (begins_unknown_id d.payload) (λ is. absurd (false≢true (sym (ap not is) ∙ one.1))) (λ off. off)

    late : is_late p older ≡ not (x.number == z.number)
    late = ap (λ e. is_another z (latest_in (live now (line e older)))) client ∙ ap (λ l. is_another z (latest_in l)) lived ∙ ap (is_another z) has.latest

    number : x.number ≡ n
    number = by_test (x.number == z.number)
        (λ is. eqb-true x.number z.number is ∙ eqb-true z.number n of)
        (λ off. absurd (false≢true (sym (ap not (late ∙ ap not off)) ∙ two.1)))

    before : answered_in x (kp ++ rest) ≡ Some d.target
    before =
        let here : answered_last (live now (line z.client older)) ≡ answered_in x (kp ++ rest) = ap (λ e. answered_last (live now (line e older))) client ∙ ap answered_last lived ∙ last in
        sym here ∙ the_one d.target (answered_last (live now (line z.client older))) three.1
      where
        last : answered_last (kp ++ rest) ≡ answered_in x (kp ++ rest)
        last = rw has.latest refl

    after : answered_in x (p ∷ kp ++ rest) ≡ Some d.target
    after = answered_more x p (kp ++ rest) refl ∙ ap (λ o. or_this o (answers x p) d.source) before

    first : (a : Opened c (p ∷ older) (p ∷ kp) x.number) (by : Endpoint) → answered_in x (p ∷ kp ++ rest) ≡ Some by → by ≡ other_of c a.opener.datagram → IsSteady n (p ∷ older)
    first a by is same =
        let both : Some d.target ≡ Some by = sym after ∙ is in
        let target : d.target ≡ by = cc in
        subst (λ i. IsSteady i (p ∷ older)) number (inr (a.opener, a.view, first_kept k (p ∷ older) kp x.number d now (Talks z) has.are s a from known (target ∙ same)))

    steady_talk : State c k (p ∷ older) (p ∷ kp) rest x → IsSteady n (p ∷ older)
    steady_talk (doubted is) = subst (λ i. IsSteady i (p ∷ older)) number (inl is)
    steady_talk (asking a) = absurd (false≢true a.own.0.0)
    steady_talk (waiting a) = absurd (false≢true (sym (a.core.others.0 refl) ∙ subst (λ i. (z.number == i) ≡ true) (sym number) of))
    steady_talk (misled a) = first a.opened a.by a.answered a.first
    steady_talk (answered a) = first a.opened a.by a.answered (a.by_server ∙ sym a.first)
    steady_talk (reopened a) = absurd (a.untimely (in_time_strayed write write_one strays c k s))
    steady_talk (taken a) = absurd (a.untimely (in_time_strayed write write_one strays c k s))
    steady_talk (mixed a) = absurd (a.untimely (in_time_strayed write write_one strays c k s))

  pub steady_one : (n : ℕ) (k : List Recorded) (older kp rest : List Placed) (x : Transfer) (d : Recorded) (now : ℕ) (place : Place) → is_with c d ≡ true → place ≡ place_of [] older now d
      → Has c k (new d now place ∷ older) (new d now place ∷ kp) rest x → IsStrayedAt write strays c k → is_of n (new d now place) ≡ true → GoesOnSteady n older → GoesOnSteady n (new d now place ∷ older)
  steady_one n k older kp rest x d now place with at has s of before any = elim (or_cases (is_of n (new d now place) && goes_on_with_first (new d now place) older) (some_of n goes_on_with_first older) any) [
    | inl this ↦ by has.plain.0 (and_parts (is_of n (new d now place)) (goes_on_with_first (new d now place) older) this).1
    | inr earlier ↦ steady_more n (new d now place) older (before earlier)
  ] where
    by : IsPlain c (new d now place) → goes_on_with_first (new d now place) older ≡ true → IsSteady n (new d now place ∷ older)
    by (asked z request here) on = absurd (request_on d now place older request on)
    by (talks z here client) on =
        let now_has = subst (λ w. Has c k (new d now w ∷ older) (new d now w ∷ kp) rest x) here has in
        subst (λ w. IsSteady n (new d now w ∷ older)) (sym here)
        (steady_talk n k older kp rest x z d now now_has client s (sym (of_talk n (new d now place) z here) ∙ of) (subst (λ w. goes_on_with_first (new d now w) older ≡ true) here on) now_has.state)
