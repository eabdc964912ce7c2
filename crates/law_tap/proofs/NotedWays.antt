-- What a set of ways has, by the test of ways.
use Rattle.std.proofs.Common.{◌≡◌, Bool, true, false, List, rules, cond, refl, sym, ◌∙◌, ◌||◌}
use Rattle.std.specs.Cmp.Rules.{comparing}
use Rattle.std.specs.List.{list_any}
use Rattle.std.specs.Ordering.{is_eq}
use Rattle.law_tap.specs.{WayIds, same_way, way_cmp, is_noted}

same_by_order : (one other : WayIds) → is_eq (way_cmp one other) ≡ same_way one other
same_by_order one other = sym (search (comparing, rules))

-- the set has a way exactly if the way is noted
pub noted_by_order : (way : WayIds) (ways : List WayIds) → list_any (λ other. is_eq (way_cmp way other)) ways ≡ is_noted way ways
noted_by_order way ways = λ i. list_any (λ other. same_by_order way other i) ways

or_cond : (b c : Bool) → cond b true c ≡ (b || c)
or_cond true c = refl
or_cond false c = refl

-- a set has a way more
pub noted_more : (way other : WayIds) (old new : List WayIds)
    → list_any (λ p. is_eq (way_cmp other p)) new ≡ cond (is_eq (way_cmp way other)) true (list_any (λ p. is_eq (way_cmp other p)) old)
    → is_noted other new ≡ (same_way way other || is_noted other old)
noted_more way other old new has = sym (noted_by_order other new) ∙ has ∙ or_cond (is_eq (way_cmp way other)) (list_any (λ p. is_eq (way_cmp other p)) old)
    ∙ (λ i. same_by_order way other i || noted_by_order other old i)
