-- What holds of the blocks of any store.
use Rattle.std.proofs.Common.{◌≡◌, ◌+◌, ◌<◌, ◌≤◌, ℕ, inl, inr, Some, None, refl, sym, ◌∙◌, arith}
use Rattle.std.proofs.lemmas.Bool.{cases_lt}
use Rattle.tftp_ends.specs.Blocks.{Held, IsHeldFront, IsHighest, IsOrderly, IsHeldLast, Takes}

apart : (held : Held) (f g : ℕ) → IsHeldFront held f → IsHeldFront held g → f < g → ⊥
apart held f g first second less =
    let has = second.below (f + 1) (omega arith) (omega arith) in
    let no : None ≡ Some has.0 = sym first.next ∙ has.1 in cc

pub front_unique : (held : Held) (f g : ℕ) → IsHeldFront held f → IsHeldFront held g → f ≡ g
front_unique held f g first second = elim (cases_lt f g) [
  | inl less ↦ absurd (apart held f g first second less)
  | inr rest ↦ elim (cases_lt g f) [
    | inl less ↦ absurd (apart held g f second first less)
    | inr same ↦ omega arith
  ]
]

pub takes_within : (b w : ℕ) (held : Held) (front k long : ℕ) → IsHeldFront held front → Takes b w held k long → k ≤ front + w
takes_within b w held front k long is takes =
    let same = front_unique held takes.within.0 front takes.within.1 is in
    let near = takes.within.2 in omega arith

last_is : (b : ℕ) (held : Held) (high last : ℕ) → IsOrderly b held → IsHighest held high → IsHeldLast b held last → last ≡ high
last_is b held high last orderly highest is =
    let low = highest.most last is.0 is.1 in
    let short = is.2 in
    elim (cases_lt last high) [
      | inl before ↦ let there = highest.held_there (omega arith) in let exact = orderly.whole last high is.0 there.0 is.1 there.1 before in omega arith
      | inr same ↦ omega arith
    ]

pub may_below : (b w : ℕ) (held : Held) (front high k : ℕ) → IsHeldFront held front → IsOrderly b held → IsHighest held high → 1 ≤ k → k ≤ front + w → k < high → Takes b w held k b
may_below b w held front high k is orderly highest one near low = record {
  from_one = one;
  within = (front, is, near);
  fits = omega arith;
  before_last = λ last known. let same = last_is b held high last orderly highest known in inl (omega arith, refl);
  is_last = λ less. absurd (omega arith);
}

-- what is not the highest block is whole
pub whole_below : (b w : ℕ) (held : Held) (high k long : ℕ) → IsOrderly b held → IsHighest held high → k < high → Takes b w held k long → long ≡ b
whole_below b w held high k long orderly highest low takes = elim (cases_lt long b) [
  | inl less ↦ elim (takes.is_last less) [
    | inl (last, known) ↦ let same = last_is b held high last orderly highest known in elim (takes.before_last last known) [
      | inl (before, exact) ↦ exact
      | inr (equal, short) ↦ absurd (omega arith)
    ]
    | inr others ↦ let there = highest.held_there (omega arith) in let under = others high there.0 there.1 in absurd (omega arith)
  ]
  | inr most ↦ let fits = takes.fits in omega arith
]

pub may_end : (b w : ℕ) (held : Held) (front high k long : ℕ) → IsHeldFront held front → IsOrderly b held → IsHighest held high → 1 ≤ k → k ≤ front + w → IsHeldLast b held high
    → k ≡ high → long < b → Takes b w held k long
may_end b w held front high k long is orderly highest one near short equal less = record {
  from_one = one;
  within = (front, is, near);
  fits = omega arith;
  before_last = λ last known. let same = last_is b held high last orderly highest known in inr (omega arith, less);
  is_last = λ less. inl (high, short);
}
