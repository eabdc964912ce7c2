-- The blocks of a wire determine it.
use Rattle.std.proofs.Common.{◌≡◌, ℕ, zero, suc, ◌+◌, ◌-◌, ◌*◌, ◌/◌, ◌<◌, ◌≤◌, List, ◌++◌, length, take, drop, sym, ap, ap₂, subst, ◌∙◌, arith, div-add-mod', mod-lt, suc-mul, zero-mul, length-drop, take-append-drop, drop-drop, take_all}
use Rattle.law_model.specs.Model.{block, block_count}

first_block : (b : ℕ) (wire : List ℕ) → block b wire 1 ≡ take b wire
first_block b wire = ap (λ n. take b (drop n wire)) (zero-mul b)

-- block k behind the first is block k + 1
later_block : (b : ℕ) (wire : List ℕ) (k : ℕ) → 1 ≤ k → block b (drop b wire) k ≡ block b wire (k + 1)
later_block b wire k one =
    let e : b + (k - 1) * b ≡ (k + 1 - 1) * b = omega arith ∙ sym (suc-mul (k - 1) b) ∙ ap (λ n. n * b) (omega arith) in
    ap (take b) (drop-drop ((k - 1) * b) b wire ∙ ap (λ n. drop n wire) e)

whole_block : (b : ℕ) (wire : List ℕ) → length wire < 1 * b → wire ≡ block b wire 1
whole_block b wire short = sym (first_block b wire ∙ take_all b wire (omega arith))

rest_short : (n b : ℕ) (wire : List ℕ) → 1 ≤ b → length wire < suc (suc n) * b → length (drop b wire) < suc n * b
rest_short n b wire one short =
    let more : suc (suc n) * b ≡ suc n * b + b = suc-mul (suc n) b in
    let some : suc n * b ≡ n * b + b = suc-mul n b in
    omega (arith, length-drop b wire)

same_by_blocks : (n b : ℕ) (w v : List ℕ) → 1 ≤ b → length w < suc n * b → length v < suc n * b → ((k : ℕ) → 1 ≤ k → k ≤ suc n → block b w k ≡ block b v k) → w ≡ v
same_by_blocks zero b w v one short other same = whole_block b w short ∙ same 1 (omega arith) (omega arith) ∙ sym (whole_block b v other)
same_by_blocks (suc n) b w v one short other same =
    let head : take b w ≡ take b v = sym (first_block b w) ∙ same 1 (omega arith) (omega arith) ∙ first_block b v in
    let tail : drop b w ≡ drop b v =
    same_by_blocks n b (drop b w) (drop b v) one (rest_short n b w one short) (rest_short n b v one other)
    (λ k low high. later_block b w k low ∙ same (k + 1) (omega arith) (omega arith) ∙ sym (later_block b v k low)) in
    sym (take-append-drop b w) ∙ ap₂ (λ x y. x ++ y) head tail ∙ take-append-drop b v

-- a wire has fewer bytes than its blocks have room
count_bound : (b : ℕ) (wire : List ℕ) → 1 ≤ b → length wire < suc (length wire / b) * b
count_bound b wire one =
    let room : suc (length wire / b) * b ≡ length wire / b * b + b = suc-mul (length wire / b) b in
    omega (arith, div-add-mod' (length wire) b, mod-lt (length wire) {m = b} one)

pub same_wire : (b : ℕ) (w v : List ℕ) → 1 ≤ b → block_count b w ≡ block_count b v → ((k : ℕ) → 1 ≤ k → k ≤ block_count b w → block b w k ≡ block b v k) → w ≡ v
same_wire b w v one count same =
    let equal : length w / b ≡ length v / b = omega arith in
    let other : length v < suc (length w / b) * b = subst (λ n. length v < suc n * b) (sym equal) (count_bound b v one) in
    same_by_blocks (length w / b) b w v one (count_bound b w one) other (λ k low high. same k low (omega arith))
