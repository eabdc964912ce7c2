-- A fragment that came, and what is known then.
use Rattle.std.proofs.Common.{◌≡◌, ◌≢◌, ℕ, ◌≤◌, false, List, [], ◌∷◌, Option, Some, None, Vec, Global, length, refl, sym, ◌∙◌, subst, arith}
use Rattle.net_udp.specs.Fragments.Whole.{Content, Part}
use Rattle.net_udp.specs.Fragments.{Give, Agrees, IsComplete, IsHeld, StandsFor, nothing_held, Arrival, IsSetOf, MayJoin, PutTogether, SetState, TakeEnds, parts_of, Comes, IsKeptOf, began_of}
use Rattle.net_udp.proofs.FragmentsLemmas.Holding.{complete, not_both, whole_given}

no_byte_held : (k b : ℕ) → None ≡ Some b → ⊥
no_byte_held k b e = cc

nothing_stands : StandsFor nothing_held []
nothing_stands = record {
  each = tt;
  brought = λ k b e. absurd (no_byte_held k b e);
  reach = λ some. absurd (omega (arith, some));
  last = λ e. absurd (not_both false e refl);
  named = λ n e. absurd (no_byte_held 0 n e);
}

pub nothing_agrees : (p : Part) → 1 ≤ length p.content → Agrees nothing_held p
nothing_agrees p some = record {
  bytes = λ i b within e. absurd (no_byte_held i b e);
  ends = (λ e. absurd (not_both false e refl), λ e last. omega arith);
  names = λ n at e. absurd (no_byte_held 0 n e);
}

abbrev pub nothing_kept : Option ℕ → SetState
nothing_kept began = record { held = nothing_held; frames = []; extents = []; began = began; spoiled = false }

pub nothing_joins : (p : Part) (began : Option ℕ) → 1 ≤ length p.content → MayJoin (nothing_kept began) p
nothing_joins p began some = record { agrees = nothing_agrees p some; distinct = λ e one. one }

pub empty_set : (began : Option ℕ) → IsSetOf (nothing_kept began) []
empty_set began = record {
  held = λ e. nothing_stands;
  frames = λ e. refl;
  extents = λ e x. (λ one. one, λ one. one);
  distinct = λ e two. two;
  apart = λ e. absurd (not_both false e refl);
  nothing = λ e. absurd (not_both false e refl);
}

some_arrivals : (a : Arrival) (arrivals : List Arrival) → (a ∷ arrivals) ≢ []
some_arrivals a arrivals e = cc

same_began : (a : Arrival) (arrivals : List Arrival) → arrivals ≢ [] → began_of (a ∷ arrivals) ≡ began_of arrivals
same_began a [] h = absurd (h refl)
same_began a (b ∷ before) h = refl

pub came : (s t : SetState) (a : Arrival) → t.began ≡ s.began → TakeEnds s t a.part a.frame None → Comes (Some s) (Some t) a
came s t a e h arrivals kept = (some_arrivals a arrivals, e ∙ kept.1 ∙ sym (same_began a arrivals kept.0), h.2 arrivals a refl refl kept.2)

pub came_apart : (s t : SetState) (a : Arrival) (frames : Vec ℕ Global) → t.began ≡ s.began → TakeEnds s t a.part a.frame (Some frames) → Comes (Some s) (Some t) a
came_apart s t a frames e h arrivals kept = (some_arrivals a arrivals, e ∙ kept.1 ∙ sym (same_began a arrivals kept.0), (h.3 arrivals a refl kept.2).1)

pub came_first : (s t : SetState) (a : Arrival) → t.began ≡ a.time → IsSetOf s [] → TakeEnds s t a.part a.frame None → Comes None (Some t) a
came_first s t a e is h arrivals none =
    let all = h.2 [] a refl refl is in
    (some_arrivals a arrivals, subst (λ (l : List Arrival). t.began ≡ began_of (a ∷ l)) (sym none) e, subst (λ (l : List Arrival). IsSetOf t (a ∷ l)) (sym none) all)

pub not_given : (t : SetState) (arrivals : List Arrival) (whole : Content) → t.spoiled ≡ false → IsSetOf t arrivals → (IsComplete t.held → ⊥) → Give (parts_of arrivals) whole → ⊥
not_given t arrivals whole e is not_all g = not_all (complete t.held (parts_of arrivals) whole (is.held e) g)

pub given : (t : SetState) (arrivals : List Arrival) (content : Content) → t.spoiled ≡ false → IsSetOf t arrivals → IsComplete t.held → IsHeld t.held content → PutTogether (parts_of arrivals) content
given t arrivals content e is all are = (whole_given t.held (parts_of arrivals) content (is.held e) all.last are, is.distinct e)

-- ---- the same under a key

pub comes_at : (old new : Option SetState) (s t : SetState) (a : Arrival) → old ≡ Some s → new ≡ Some t → Comes (Some s) (Some t) a → Comes old new a
comes_at old new s t a e f h = subst (λ (o : Option SetState). Comes o new a) (sym e) (subst (λ (o : Option SetState). Comes (Some s) o a) (sym f) h)

pub kept_at : (old : Option SetState) (s : SetState) (arrivals : List Arrival) → old ≡ Some s → IsKeptOf old arrivals → IsKeptOf (Some s) arrivals
kept_at old s arrivals e h = subst (λ (o : Option SetState). IsKeptOf o arrivals) e h
