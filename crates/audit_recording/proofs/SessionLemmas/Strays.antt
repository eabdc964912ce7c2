-- What is kept of datagrams of no transfer, with one more.
use Rattle.std.proofs.Common.{◌≡◌, ◌≤◌, ◌<◌, ◌+◌, ◌==◌, ◌&&◌, ◌++◌, ◌∷◌, min, ℕ, zero, suc, Bool, true, false, cond, List, [], None, Some, length, map, filter, get_or, set, take, inl, inr, ◌⊎◌, refl, sym, ap, subst, ◌∙◌, arith}
use Rattle.std.specs.List.{AllByRecursion, list_any, position}
use Rattle.std.proofs.lemmas.Bool.{false≢true, and_from, and_parts, eqb-true, eq-eqb}
use Rattle.audit_flows.specs.{Endpoint}
use Rattle.audit_flows.specs.Lines.{same_endpoint}
use Rattle.audit_flows.proofs.LinesLemmas.Endpoints.{is_same, same_itself}
use Rattle.audit_recording.specs.declared.session.begun.Pair.{Pair}
use Rattle.audit_recording.specs.Session.Told.{count_of}
use Rattle.audit_recording.specs.Session.Firsts.{firsts}
use Rattle.audit_recording.specs.Session.Strays.{Stray, asked_ports, asks, begun_pairs, frames_there, going_on, goes_on, newest_in, one_more, pair_of, passed_between, passed_there}
use Rattle.audit_recording.proofs.LossesLemmas.Keeping.{by_test}
use Rattle.audit_recording.proofs.SessionLemmas.Firsts.{NoneLike, Passes, Turns, no_two, no_two_taken, none_is_like, one_more as one_first, none_any, or_left, or_rest, or_right, stay, stay_known}
use Rattle.audit_recording.proofs.SessionLemmas.Places.{made_alike, none_passes, one_made, place_below, place_passes}

-- ---- the same two endpoints

abbrev AreEnds : Stray → Stray → Type 0
AreEnds d f = ((d.source ≡ f.source) × (d.target ≡ f.target)) ⊎ ((d.source ≡ f.target) × (d.target ≡ f.source))

both_same : (a b c e : Endpoint) → (same_endpoint a b && same_endpoint c e) ≡ true → (a ≡ b) × (c ≡ e)
both_same a b c e is = let parts = and_parts (same_endpoint a b) (same_endpoint c e) is in (is_same a b parts.0, is_same c e parts.1)

both_are : (a b c e : Endpoint) → a ≡ b → c ≡ e → (same_endpoint a b && same_endpoint c e) ≡ true
both_are a b c e one other =
    and_from (same_endpoint a b) (same_endpoint c e) (subst (λ q. same_endpoint a q ≡ true) one (same_itself a)) (subst (λ q. same_endpoint c q ≡ true) other (same_itself c))

ends : (d f : Stray) → passed_there d f ≡ true → AreEnds d f
ends d f is = by_test (same_endpoint d.source f.source && same_endpoint d.target f.target)
    (λ so. inl (both_same d.source f.source d.target f.target so))
    (λ off. inr (both_same d.source f.target d.target f.source
    (sym (or_rest (same_endpoint d.source f.source && same_endpoint d.target f.target) (same_endpoint d.source f.target && same_endpoint d.target f.source) off) ∙ is)))

like : (d f : Stray) → AreEnds d f → passed_there d f ≡ true
like d f (inl (one, other)) =
    or_left (same_endpoint d.source f.source && same_endpoint d.target f.target) (same_endpoint d.source f.target && same_endpoint d.target f.source)
    (both_are d.source f.source d.target f.target one other)
like d f (inr (one, other)) =
    or_right (same_endpoint d.source f.source && same_endpoint d.target f.target) (same_endpoint d.source f.target && same_endpoint d.target f.source)
    (both_are d.source f.target d.target f.source one other)

passed_on : (x y f : Stray) → AreEnds x y → AreEnds y f → AreEnds x f
passed_on x y f (inl (a, b)) (inl (c, e)) = inl (a ∙ c, b ∙ e)
passed_on x y f (inl (a, b)) (inr (c, e)) = inr (a ∙ c, b ∙ e)
passed_on x y f (inr (a, b)) (inl (c, e)) = inr (a ∙ e, b ∙ c)
passed_on x y f (inr (a, b)) (inr (c, e)) = inl (a ∙ e, b ∙ c)

turned : (x y : Stray) → AreEnds x y → AreEnds y x
turned x y (inl (a, b)) = inl (sym a, sym b)
turned x y (inr (a, b)) = inr (sym b, sym a)

passes : Passes passed_there
passes x y f is also = like x f (passed_on x y f (ends x y is) (ends y f also))

turns : Turns passed_there
turns x y is = like y x (turned x y (ends x y is))

itself : (x : Stray) → passed_there x x ≡ true
itself x = like x x (inl (refl, refl))

off_turned : (x y : Stray) → passed_there x y ≡ false → passed_there y x ≡ false
off_turned x y off = by_test (passed_there y x) (λ is. absurd (false≢true (sym off ∙ turns y x is))) (λ none. none)

-- ---- what is told of two endpoints, with one more

abbrev chosen : Stray → Stray → List Stray → Bool → List ℕ
chosen f d strays b = map (λ (e : Stray). e.frame) (cond b (d ∷ filter (λ (e : Stray). passed_there e f) strays) (filter (λ (e : Stray). passed_there e f) strays))

it_passed : (f d : Stray) (strays : List Stray) → passed_there d f ≡ true → frames_there f (d ∷ strays) ≡ d.frame ∷ frames_there f strays
it_passed f d strays is = ap (chosen f d strays) is

other_passed : (f d : Stray) (strays : List Stray) → passed_there d f ≡ false → frames_there f (d ∷ strays) ≡ frames_there f strays
other_passed f d strays off = ap (chosen f d strays) off

none_passed : (f : Stray) (strays : List Stray) → NoneLike passed_there f strays → frames_there f strays ≡ []
none_passed f [] none = refl
none_passed f (d ∷ strays) none = other_passed f d strays (off_turned f d none.0) ∙ none_passed f strays none.1

abbrev told_by : Stray → List ℕ → Pair
told_by f frames = record { one = f.source; other = f.target; count = count_of frames; first = f.frame; last = newest_in frames }

counts : (frames : List ℕ) (n : ℕ) → count_of (n ∷ frames) ≡ min (count_of frames + 1) 18446744073709551615
counts frames n = omega arith

pair_other : (f d : Stray) (strays : List Stray) → passed_there d f ≡ false → pair_of strays f ≡ pair_of (d ∷ strays) f
pair_other f d strays off = ap (told_by f) (sym (other_passed f d strays off))

pair_it : (f d : Stray) (strays : List Stray) → passed_there d f ≡ true → one_more d.frame (pair_of strays f) ≡ pair_of (d ∷ strays) f
pair_it f d strays is =
    (λ i. record { one = f.source; other = f.target; count = sym (counts (frames_there f strays) d.frame) i; first = f.frame; last = d.frame })
    ∙ ap (told_by f) (sym (it_passed f d strays is))

-- ---- the pairs, with one more

abbrev pairs_by : List Stray → List Pair
pairs_by going = map (pair_of going) (take 16 (firsts passed_there going))

module _ (d : Stray) (strays : List Stray) where
  pub ignored : goes_on d.payload ≡ false → begun_pairs strays ≡ begun_pairs (d ∷ strays)
  ignored off = ap (λ b. pairs_by (cond b (d ∷ going_on strays) (going_on strays))) (sym off)

  module _ (goes : goes_on d.payload ≡ true) where
    gone_on : pairs_by (d ∷ going_on strays) ≡ begun_pairs (d ∷ strays)
    gone_on = ap (λ b. pairs_by (cond b (d ∷ going_on strays) (going_on strays))) (sym goes)

    abbrev kept_ones : List Stray
    kept_ones = take 16 (firsts passed_there (going_on strays))

    abbrev is_theirs : Pair → Bool
    is_theirs p = passed_between p.one p.other d

    pairs_other : (f : Stray) → passed_there d f ≡ false → pair_of (going_on strays) f ≡ pair_of (d ∷ going_on strays) f
    pairs_other f off = pair_other f d (going_on strays) off

    any_there : (fs : List Stray) (i : ℕ) (p : Pair) → i < length (map (pair_of (going_on strays)) fs) → is_theirs (get_or (map (pair_of (going_on strays)) fs) i p) ≡ true
        → list_any (passed_there d) fs ≡ true
    any_there [] i p below is = absurd (omega (arith, below))
    any_there (f ∷ fs) zero p below is = or_left (passed_there d f) (list_any (passed_there d) fs) is
    any_there (f ∷ fs) (suc i) p below is = or_right (passed_there d f) (list_any (passed_there d) fs) (any_there fs i p (omega (arith, below)) is)

    known_here : (i : ℕ) (k p : Pair) → position is_theirs (begun_pairs strays) ≡ Some i → k ≡ one_more d.frame (get_or (begun_pairs strays) i p)
        → set (begun_pairs strays) i k ≡ begun_pairs (d ∷ strays)
    known_here i k p at more =
        let below = place_below is_theirs (begun_pairs strays) i p at in
        let theirs = place_passes is_theirs (begun_pairs strays) i p at in
        one_made passed_there passes turns d (pair_of (going_on strays)) (pair_of (d ∷ going_on strays)) pairs_other is_theirs (λ f. refl) (one_more d.frame)
        (λ f is. pair_it f d (going_on strays) is) kept_ones i k p (no_two_taken passed_there 16 (firsts passed_there (going_on strays)) (no_two passed_there (going_on strays))) below theirs more
        ∙ ap (map (pair_of (d ∷ going_on strays))) (sym (stay_known passed_there 16 d (going_on strays) (any_there kept_ones i p below theirs)))
        ∙ gone_on

    -- of two endpoints that are known
    pub known_pair : (pairs : List Pair) → pairs ≡ begun_pairs strays → (i : ℕ) (k p : Pair) → position is_theirs pairs ≡ Some i → k ≡ one_more d.frame (get_or pairs i p)
        → set pairs i k ≡ begun_pairs (d ∷ strays)
    known_pair pairs are i k p = subst (λ (ps : List Pair). position is_theirs ps ≡ Some i → k ≡ one_more d.frame (get_or ps i p) → set ps i k ≡ begun_pairs (d ∷ strays)) (sym are) (known_here i k p)

    unlike : (fs : List Stray) → AllByRecursion (λ p. is_theirs p ≡ false) (map (pair_of (going_on strays)) fs) → NoneLike passed_there d fs
    unlike [] none = tt
    unlike (f ∷ fs) none = (none.0, unlike fs none.1)

    module _ (pairs : List Pair) (are : pairs ≡ begun_pairs strays) (none : position is_theirs pairs ≡ None) where
      none_kept : NoneLike passed_there d kept_ones
      none_kept = unlike kept_ones (none_passes is_theirs (begun_pairs strays) (subst (λ ps. position is_theirs ps ≡ None) are none))

      long_as : (fs : List Stray) → length (map (pair_of (going_on strays)) fs) ≡ length fs
      long_as [] = refl
      long_as (f ∷ fs) = ap suc (long_as fs)

      as_many : length pairs ≡ length kept_ones
      as_many = ap length are ∙ long_as kept_ones

      -- of two more, where there are many
      pub many_pairs : 16 ≤ length pairs → pairs ≡ begun_pairs (d ∷ strays)
      many_pairs many =
          are
          ∙ made_alike passed_there passes turns d (pair_of (going_on strays)) (pair_of (d ∷ going_on strays)) pairs_other kept_ones none_kept
          ∙ ap (map (pair_of (d ∷ going_on strays))) (sym (stay passed_there 16 d (going_on strays) (omega (arith, many, as_many))))
          ∙ gone_on

      told_both : (fs : List Stray) (f : Stray) → map (pair_of (d ∷ going_on strays)) (fs ++ f ∷ []) ≡ map (pair_of (d ∷ going_on strays)) fs ++ pair_of (d ∷ going_on strays) f ∷ []
      told_both [] f = refl
      told_both (first ∷ fs) f = ap (λ l. pair_of (d ∷ going_on strays) first ∷ l) (told_both fs f)

      -- of two more
      pub new_pair : length pairs < 16 → pairs ++ record { one = d.source; other = d.target; count = 1; first = d.frame; last = d.frame } ∷ [] ≡ begun_pairs (d ∷ strays)
      new_pair few =
          let short : length kept_ones < 16 = omega (arith, few, as_many) in
          let off : list_any (passed_there d) kept_ones ≡ false = none_any passed_there d kept_ones none_kept in
          let it : told_by d (d.frame ∷ []) ≡ pair_of (d ∷ going_on strays) d =
          ap (told_by d) (sym (it_passed d d (going_on strays) (itself d) ∙ ap (λ l. d.frame ∷ l) (none_passed d (going_on strays) (none_is_like passed_there passes 16 d (going_on strays) short off)))) in
          (λ i. (are ∙ made_alike passed_there passes turns d (pair_of (going_on strays)) (pair_of (d ∷ going_on strays)) pairs_other kept_ones none_kept) i ++ it i ∷ [])
          ∙ sym (told_both kept_ones d)
          ∙ ap (map (pair_of (d ∷ going_on strays))) (sym (one_first passed_there passes 16 d (going_on strays) short off))
          ∙ gone_on

-- ---- the ports, with one more

abbrev same_port : ℕ → ℕ → Bool
same_port port first = first == port

ports_pass : Passes same_port
ports_pass x y f is also = eq-eqb f x (eqb-true f y also ∙ eqb-true y x is)

abbrev ports_in : List Stray → List ℕ
ports_in strays = map (λ (e : Stray). e.target.port) (filter (λ (e : Stray). asks e.payload) strays)

module _ (d : Stray) (strays : List Stray) where
  abbrev ports_by : Bool → List ℕ
  ports_by b = take 5 (firsts same_port (map (λ (e : Stray). e.target.port) (cond b (d ∷ filter (λ (e : Stray). asks e.payload) strays) (filter (λ (e : Stray). asks e.payload) strays))))

  pub asks_nothing : asks d.payload ≡ false → asked_ports strays ≡ asked_ports (d ∷ strays)
  asks_nothing off = ap ports_by (sym off)

  module _ (is : asks d.payload ≡ true) where
    pub asks_many : 5 ≤ length (asked_ports strays) → asked_ports strays ≡ asked_ports (d ∷ strays)
    asks_many many = sym (stay same_port 5 d.target.port (ports_in strays) many) ∙ ap ports_by (sym is)

    pub asks_again : list_any (λ first. first == d.target.port) (asked_ports strays) ≡ true → asked_ports strays ≡ asked_ports (d ∷ strays)
    asks_again known = sym (stay_known same_port 5 d.target.port (ports_in strays) known) ∙ ap ports_by (sym is)

    pub asks_first : length (asked_ports strays) < 5 → list_any (λ first. first == d.target.port) (asked_ports strays) ≡ false → asked_ports strays ++ d.target.port ∷ [] ≡ asked_ports (d ∷ strays)
    asks_first few none = sym (one_first same_port ports_pass 5 d.target.port (ports_in strays) few none) ∙ ap ports_by (sym is)
