-- A wire that is joined of blocks of any size.
use Rattle.std.proofs.Common.{◌≡◌, ℕ, zero, suc, ◌+◌, ◌-◌, ◌*◌, ◌/◌, ◌<◌, ◌≤◌, min, List, ◌++◌, length, take, drop, sym, subst, ap, ◌∙◌, arith}
use Rattle.std.proofs.Math.Nat.{suc-mul, mul-le-mul_right, div-mul-le_self, lt-div-mul-add}
use Rattle.std.proofs.Math.Seq.{drop-append_seam}
use Rattle.std.proofs.lemmas.List.{length-append, length-take, length-drop, take-append-le, drop-append-le, take_all}
use Rattle.law_model.specs.Model.{block, block_count}

pub length_block : (b k : ℕ) (v : List ℕ) → length (block b v k) ≡ min b (length v - (k - 1) * b)
length_block b k v = length-take b (drop ((k - 1) * b) v) ∙ ap (min b) (length-drop ((k - 1) * b) v)

-- after so many whole blocks, these bytes are the next
pub block_added : (b k : ℕ) (w bytes : List ℕ) → length w ≡ (k - 1) * b → length bytes ≤ b → block b (w ++ bytes) k ≡ bytes
block_added b k w bytes size fits =
    ap (take b) (ap (λ n. drop n (w ++ bytes)) (sym size) ∙ drop-append_seam w bytes) ∙ take_all b bytes fits

-- and the whole blocks stay
pub block_kept : (b k n : ℕ) (w bytes : List ℕ) → 1 ≤ k → k < n → length w ≡ (n - 1) * b → block b (w ++ bytes) k ≡ block b w k
block_kept b zero n w bytes low below size = absurd (omega arith)
block_kept b (suc j) n w bytes low below size =
    let now : suc j - 1 ≡ j = omega arith in
    let upto : suc j * b ≤ (n - 1) * b = mul-le-mul_right {m = suc j} {n = n - 1} b (omega arith) in
    let whole : suc j * b ≡ j * b + b = suc-mul j b in
    let inside : j * b ≤ length w = omega arith in
    let room : b ≤ length (drop (j * b) w) = subst (λ i. b ≤ i) (sym (length-drop (j * b) w)) (omega arith) in
    ap (λ i. take b (drop (i * b) (w ++ bytes))) now ∙ ap (take b) (drop-append-le (j * b) w bytes inside) ∙ take-append-le b (drop (j * b) w) bytes room
    ∙ ap (λ i. take b (drop (i * b) w)) (sym now)

pub size_more : (b n : ℕ) (w bytes : List ℕ) → 1 ≤ n → length w ≡ (n - 1) * b → length bytes ≡ b → length (w ++ bytes) ≡ (n + 1 - 1) * b
size_more b zero w bytes some size whole = absurd (omega arith)
size_more b (suc j) w bytes some size whole =
    let now : suc j - 1 ≡ j = omega arith in
    let next : suc j + 1 - 1 ≡ suc j = omega arith in
    length-append w bytes ∙ ap (λ n. n + length bytes) (size ∙ ap (λ i. i * b) now) ∙ ap (λ n. j * b + n) whole ∙ sym (suc-mul j b) ∙ ap (λ i. i * b) (sym next)

-- ---- a joined wire has blocks of these lengths

pub whole_block : (b last k : ℕ) (v : List ℕ) → block_count b v ≡ last → 1 ≤ k → k < last → length (block b v k) ≡ b
whole_block b last zero v count low below = absurd (omega arith)
whole_block b last (suc j) v count low below =
    let now : suc j - 1 ≡ j = omega arith in
    let upto : suc j * b ≤ length v / b * b = mul-le-mul_right {m = suc j} {n = length v / b} b (omega arith) in
    let within : length v / b * b ≤ length v = div-mul-le_self (length v) b in
    let whole : suc j * b ≡ j * b + b = suc-mul j b in
    length_block b (suc j) v ∙ ap (λ i. min b (length v - i * b)) now ∙ omega arith

pub last_block : (b last : ℕ) (v : List ℕ) → 0 < b → block_count b v ≡ last → length (block b v last) < b
last_block b last v some count =
    let now : last - 1 ≡ length v / b = omega arith in
    let past : length v < length v / b * b + b = lt-div-mul-add some in
    let is : length (block b v last) ≡ min b (length v - length v / b * b) = length_block b last v ∙ ap (λ i. min b (length v - i * b)) now in
    omega arith
