-- When something of no line passed at an endpoint, after one datagram more, and when that is forgotten.
use Rattle.std.proofs.Common.{◌≡◌, ◌≤◌, ℕ, ◌+◌, Bool, true, false, List, ◌∷◌, Option, Some, None, cond, inl, inr, refl, sym, ap, subst, ◌∙◌, ◌&&◌, ◌||◌, nat_le, option_map, if◌then◌else◌}
use Rattle.std.specs.BTreeMap.{get, BTreeMap}
use Rattle.std.specs.Ordering.{is_eq}
use Rattle.std.proofs.lemmas.Bool.{false≢true}
use Rattle.audit_flows.specs.Lines.{Recorded, Placed, same_endpoint, endpoint_cmp, clock, newest_of, silence, is_apart_from_lines, is_near, is_stray_at, may_be_tftp}
use Rattle.audit_flows.specs.declared.lines.endpoint.Endpoint.{Endpoint}
use Rattle.audit_flows.specs.declared.lines.place.Place.{Place}
use Rattle.audit_flows.specs.declared.lines.place.Place.TheVariants.{Opens, Repeats, Talks, Apart, Beside, Nowhere}
use Rattle.audit_flows.proofs.LinesLemmas.Endpoints.{same_by_order}
use Rattle.audit_flows.proofs.LinesLemmas.Lines.{by_test}
use Rattle.audit_flows.proofs.LinesLemmas.Silences.{still_false}
use Rattle.audit_flows.specs.Transfers.{Forgets, IsStrayKept, AreStrays}
use Rattle.audit_flows.specs.declared.transfers.attribution.Strayed.{Strayed}
use Rattle.audit_flows.specs.Transfers.Kept.{takes_memory}
use Rattle.audit_flows.proofs.TransfersLemmas.Forgetting.{IsOld}

-- what takes no memory is of no line, and does not look as if it were
pub takes_none : (place : Place) (d : Recorded) → takes_memory place d ≡ false → (is_apart_from_lines place ≡ true) × (may_be_tftp d ≡ false)
takes_none (Opens x) d none = absurd (false≢true (sym none))
takes_none (Repeats x) d none = absurd (false≢true (sym none))
takes_none (Talks x) d none = absurd (false≢true (sym none))
takes_none (Apart c) d none = absurd (false≢true (sym none))
takes_none (Beside x) d none = (refl, none)
takes_none Nowhere d none = (refl, none)

near_later : (then_at now : ℕ) (last : Option Placed) → then_at ≤ now → is_near then_at last ≡ false → is_near now last ≡ false
near_later then_at now None later off = refl
near_later then_at now (Some q) later off = still_false then_at now (q.moment + silence) later off

near_by : (now moment : ℕ) (last : Option Placed) → option_map (λ q. q.moment) last ≡ Some moment → is_near now last ≡ nat_le now (moment + silence)
near_by now moment None is = absurd (cc)
near_by now moment (Some q) is = let same : q.moment ≡ moment = cc in ap (λ m. nat_le now (m + silence)) same

-- by what is kept
pub strays_none : (e : Endpoint) (now : ℕ) (older : List Placed) → clock older ≤ now → IsStrayKept e older None → false ≡ is_near now (newest_of (is_stray_at e) older)
strays_none e now older later kept = sym (near_later (clock older) now (newest_of (is_stray_at e) older) later kept)

pub strays_some : (e : Endpoint) (now : ℕ) (older : List Placed) (s : Strayed) → IsStrayKept e older (Some s) → nat_le now (s.moment + silence) ≡ is_near now (newest_of (is_stray_at e) older)
strays_some e now older s kept = sym (near_by now s.moment (newest_of (is_stray_at e) older) kept)

kept_on : (e : Endpoint) (p : Placed) (older : List Placed) (kept : Option Strayed) → is_stray_at e p ≡ false → clock older ≤ p.moment → IsStrayKept e older kept → IsStrayKept e (p ∷ older) kept
kept_on e p older None off later none =
    ap (λ b. is_near p.moment (if b then Some p else newest_of (is_stray_at e) older)) off ∙ near_later (clock older) p.moment (newest_of (is_stray_at e) older) later none
kept_on e p older (Some s) off later is = ap (λ b. option_map (λ q. q.moment) (if b then Some p else newest_of (is_stray_at e) older)) off ∙ is

-- after a datagram of a line, or one that does not look as if it were of a transfer
pub strays_same : (strays : BTreeMap Endpoint Strayed) (p : Placed) (older : List Placed) → clock older ≤ p.moment → (is_apart_from_lines p.place && may_be_tftp p.datagram) ≡ false
    → AreStrays strays older → AreStrays strays (p ∷ older)
strays_same strays p older later off stands = λ e.
    kept_on e p older (get endpoint_cmp strays e) (ap (λ b. b && (same_endpoint p.datagram.source e || same_endpoint p.datagram.target e)) off) later (stands e)

here : (e : Endpoint) (p : Placed) (older : List Placed) (s : Strayed) → is_stray_at e p ≡ true → p.moment ≡ s.moment → IsStrayKept e (p ∷ older) (Some s)
here e p older s is same = ap (λ b. option_map (λ q. q.moment) (if b then Some p else newest_of (is_stray_at e) older)) is ∙ ap (λ m. Some m) same

-- and after another
pub strays_more : (strays some new : BTreeMap Endpoint Strayed) (p : Placed) (older : List Placed) (s : Strayed) → clock older ≤ p.moment → p.moment ≡ s.moment
    → (is_apart_from_lines p.place && may_be_tftp p.datagram) ≡ true
    → ((e : Endpoint) → get endpoint_cmp some e ≡ cond (is_eq (endpoint_cmp p.datagram.source e)) (Some s) (get endpoint_cmp strays e))
    → ((e : Endpoint) → get endpoint_cmp new e ≡ cond (is_eq (endpoint_cmp p.datagram.target e)) (Some s) (get endpoint_cmp some e))
    → AreStrays strays older → AreStrays new (p ∷ older)
strays_more strays some new p older s later same is first second stands = λ e. by e where
  looks : (e : Endpoint) (a b : Bool) → same_endpoint p.datagram.source e ≡ a → same_endpoint p.datagram.target e ≡ b → is_stray_at e p ≡ (a || b)
  looks e a b from to = (λ i. is i && (from i || to i))

  at_target : (e : Endpoint) (b : Bool) → same_endpoint p.datagram.target e ≡ b → get endpoint_cmp new e ≡ cond b (Some s) (get endpoint_cmp some e)
  at_target e b to = second e ∙ ap (λ t. cond t (Some s) (get endpoint_cmp some e)) (same_by_order p.datagram.target e ∙ to)

  at_source : (e : Endpoint) (a : Bool) → same_endpoint p.datagram.source e ≡ a → get endpoint_cmp some e ≡ cond a (Some s) (get endpoint_cmp strays e)
  at_source e a from = first e ∙ ap (λ t. cond t (Some s) (get endpoint_cmp strays e)) (same_by_order p.datagram.source e ∙ from)

  by : (e : Endpoint) → IsStrayKept e (p ∷ older) (get endpoint_cmp new e)
  by e = by_test (same_endpoint p.datagram.target e)
      (λ to. subst (IsStrayKept e (p ∷ older)) (sym (at_target e true to))
      (by_test (same_endpoint p.datagram.source e)
      (λ from. here e p older s (looks e true true from to) same)
      (λ off. here e p older s (looks e false true off to) same)))
      (λ to. subst (IsStrayKept e (p ∷ older)) (sym (at_target e false to))
      (by_test (same_endpoint p.datagram.source e)
      (λ from. subst (IsStrayKept e (p ∷ older)) (sym (at_source e true from)) (here e p older s (looks e true false from to) same))
      (λ off. subst (IsStrayKept e (p ∷ older)) (sym (at_source e false off)) (kept_on e p older (get endpoint_cmp strays e) (looks e false false off to) later (stands e)))))

old_stray : (e : Endpoint) (older : List Placed) (kept : Option Strayed) → IsStrayKept e older kept → IsOld (λ s. s.moment) (clock older) kept → is_near (clock older) (newest_of (is_stray_at e) older) ≡ false
old_stray e older None is old = absurd old
old_stray e older (Some s) is old = near_by (clock older) s.moment (newest_of (is_stray_at e) older) is ∙ old

pub strays_left : (older : List Placed) (kept left : BTreeMap Endpoint Strayed) → Forgets (λ s. s.moment) (clock older) kept left → AreStrays kept older → AreStrays left older
strays_left older kept left forgets stands = λ e. elim (forgets e) [
  | inl same ↦ subst (IsStrayKept e older) (sym same) (stands e)
  | inr (gone, old) ↦ subst (IsStrayKept e older) (sym gone) (old_stray e older (get endpoint_cmp kept e) (stands e) old)
]
