use Rattle.std.proofs.Common.{◌≡◌, true, rules, List, ℕ, Bor, is_lt, nat_cmp, ◌++◌, ap, sym, subst, ◌∙◌, true≢false, MatchBool, map as each}
use Rattle.tftp_packet.specs.{HasTwo, HasCommon, lower, keys_in}
use Rattle.std.specs.Cmp.Lexicographic.{slice_cmp}
use Rattle.std.proofs.lemmas.Cmp.{nat_list_cmp_total}
use Rattle.std.proofs.lemmas.List.Sorted.{ranks_by, answers_always, IsPermutation-map, IsPermutation-sym}
use Rattle.tftp_packet.proofs.NameLists.{two_left}
use Rattle.tftp_packet.proofs.NameOrder.{two_moved, two_of_beside, beside_of_two, common_decides}
use Rattle.tftp_packet.proofs.name_order.has_equal.Goals as goal

abbrev key : Bor (List ℕ) → List ℕ
key name = lower name.now

pub has_common-requires : goal.has_common-requires
has_common-requires c =
    c.sort_unstable_by.ensures.sorted (λ x y. is_lt (slice_cmp nat_cmp (key x) (key y))) (ranks_by nat_list_cmp_total key) (answers_always _ _ _ (λ f a r q k. ap is_lt (search rules)))

pub returns-then-has_two_beside : goal.returns-then-has_two_beside
returns-then-has_two_beside c =
    let moved = IsPermutation-map key _ _ c.sort_unstable_by.ensures.permutation in
    let is : c.has_two_beside.result ≡ true = c.if-has_two_beside.true in
    let keys = each key c.args.names.now in
    let later = keys_in c.args.long c.args.rest.now in
    subst (λ b. MatchBool b (HasTwo (keys ++ later)) ((HasTwo keys → ⊥) × (HasCommon keys later → ⊥))) (sym is) (two_left (each key c.args.names.now) (keys_in c.args.long c.args.rest.now) (two_moved _ _ (IsPermutation-sym _ _ moved) (two_of_beside _ (c.has_two_beside.ensures.0 is))))

pub returns-else-has_two_beside : goal.returns-else-has_two_beside
returns-else-has_two_beside c =
    let moved = IsPermutation-map key _ _ c.sort_unstable_by.ensures.permutation in
    let up = c.sort_unstable_by.ensures.sorted (λ x y. is_lt (slice_cmp nat_cmp (key x) (key y))) (ranks_by nat_list_cmp_total key) (answers_always _ _ _ (λ f a r q k. ap is_lt (search rules))) in
    common_decides c.has_common.result (each key c.args.names.now) (each key c.sort_unstable_by.new.self) (keys_in c.args.long c.args.rest.now) c.has_common.ensures
    (λ two. true≢false (sym (c.has_two_beside.ensures.1 (beside_of_two key c.sort_unstable_by.new.self up two)) ∙ c.if-has_two_beside.false)) moved
