-- The front of what is held.
use Rattle.std.proofs.Common.{◌≡◌, ℕ, ◌+◌, ◌-◌, ◌<◌, ◌≤◌, true, inl, inr, List, ◌∷◌, [], ◌++◌, length, map, take, get_or, slice_index, slice_index_or, Option, Some, None, refl, sym, ap, ◌∙◌, arith}
use Rattle.std.specs.Option.{is_some}
use Rattle.std.proofs.lemmas.Bool.{cases_lt}
use Rattle.std.proofs.lemmas.List.{map-append, take_more}
use Rattle.net_udp.specs.Fragments.{AreLaid, Held, IsComplete, IsKept}

pub some_of : (o : Option ℕ) → is_some o ≡ true → (b : ℕ) × (o ≡ Some b)
some_of None e = cc
some_of (Some b) e = (b, refl)

pub kept_more : (old new : List (Option ℕ)) (place : ℕ) (bytes : List ℕ) (front next : ℕ) → IsKept old front → AreLaid old place bytes new → place + length bytes ≤ 65535
    → next ≤ length new → ((k : ℕ) → front ≤ k → k < next → (b : ℕ) × (slice_index_or new k None ≡ Some b)) → (next < length new → slice_index_or new next None ≡ None) → IsKept new next
kept_more old new place bytes front next kept laid few within after here = record {
  within = within;
  before = λ k below.
      elim (cases_lt k front) [
        | inl low ↦ elim (cases_lt k place) [
          | inl left ↦ let b = kept.before k low in (b.0, laid.before k left ∙ b.1)
          | inr from ↦ elim (cases_lt k (place + length bytes)) [
            | inl inside ↦
                let at : place + (k - place) ≡ k = omega arith in
                let i : k - place < length bytes = omega arith in
                (slice_index bytes (k - place), ap (λ n. slice_index_or new n None) (sym at) ∙ laid.there (k - place) i)
            | inr right ↦ let b = kept.before k low in (b.0, laid.behind k right ∙ b.1)
          ]
        ]
        | inr high ↦ after k high below
      ];
  here = here;
  few = elim laid.exact [ inl same ↦ omega (arith, same, kept.few) | inr grown ↦ omega (arith, grown) ];
}

pub complete_from : (h : Held) (front n : ℕ) → IsKept h.cells front → h.ended ≡ true → front ≡ length h.cells → h.protocol ≡ Some n → IsComplete h
complete_from h front n kept ended e named = record { last = ended; named = (n, named); full = λ k within. kept.before k (omega (arith, e)) }

pub no_byte : (o : Option ℕ) (b : ℕ) → o ≡ None → o ≡ Some b → ⊥
no_byte o b e f = cc

pub front_from : (h : Held) (front : ℕ) → IsKept h.cells front → IsComplete h → front ≡ length h.cells
front_from h front kept all =
    elim (cases_lt front (length h.cells)) [
      | inl short ↦ let b = all.full front short in absurd (no_byte _ b.0 (kept.here short) b.1)
      | inr at ↦ omega (arith, kept.within)
    ]

pub content_more : (cells : List (Option ℕ)) (content : List ℕ) (i b : ℕ) → i < length cells → get_or cells i None ≡ Some b → map (λ (b : ℕ). Some b) content ≡ take i cells
    → map (λ (b : ℕ). Some b) (content ++ b ∷ []) ≡ take (i + 1) cells
content_more cells content i b within e h =
    map-append (λ (b : ℕ). Some b) content (b ∷ []) ∙ ap (λ l. l ++ Some b ∷ []) h ∙ sym (take_more cells i None within ∙ ap (λ x. take i cells ++ x ∷ []) e)
