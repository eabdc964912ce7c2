-- The digits of as many bytes at once as a vector holds.
use Rattle.std.proofs.Common.{◌≡◌, ℕ, suc, ◌+◌, ◌*◌, ◌/◌, ◌%◌, ◌^◌, ◌<◌, ◌≤◌, List, [], ◌∷◌, ◌++◌, length, get_or, take, drop, map, replicate, refl, sym, ap, subst, ◌∙◌, arith, w8, Fits, bit_and, append-nil, length-drop, take-append-drop}
use Rattle.std.specs.List.{range_with_len}
use Rattle.std.specs.Simd.Lanes.{zip2, Each1, pick_l, chunk, put_chunk}
use Rattle.std.proofs.lemmas.Simd.{swz_l, SwzOk, SwzOk-from_below, get_or-swz_l_below, zip2_splat, length-chunk, take_more_put_chunk}
use Rattle.std.proofs.lemmas.List.{length-map, ext_get_or, drop_all}
use Rattle.std.proofs.Math.Seq.{take-add}
use borrow.Rule.Slice.PartMut.{put_mid, post_of}
use Rattle.hex.proofs.HexLemmas.{length-encode_with}
use Rattle.std.proofs.lemmas.List.FromFn.{length-map-range_with_len, get_or-map-range_with_len}
use Rattle.std.proofs.lemmas.Nat.{and_mask}
use Rattle.hex.specs.Hex.{encode_lower, encode_with, lower_digits}
use Rattle.net_streams.proofs.DigitsLemmas.Encoding.{encode-append}

-- sixteen numbers, again and again
abbrev Repeats : List ℕ → List ℕ → ℕ → Type 0
Repeats wide table n = (m : ℕ) → m < n → get_or wide m 0 ≡ get_or table (m % 16) 0

pub once : (table : List ℕ) → Repeats table table 16
once table m l = ap (λ k. get_or table k 0) (omega arith)

pub twice : Repeats (lower_digits ++ lower_digits) lower_digits 32
twice m l = get_or-map-range_with_len (λ j. get_or lower_digits (j % 16) 0) 0 32 m m 0 l (omega arith)

-- what is looked up in a table of sixteen, which stands there once for each sixteen lanes
looked_up : (wide table : List ℕ) (b n i : ℕ) (js : List ℕ) → n ≡ b * 16 → Repeats wide table n → i + length js ≤ n → Each1 (λ j. j < 16) js
    → swz_l w8 16 wide i js ≡ map (λ j. get_or table j 0) js
looked_up wide table b n i [] whole again le h = refl
looked_up wide table b n i (j ∷ js) whole again le h =
    let small = h.0 in
    let at = 16 * ((i + 0) / 16) + j in
    let same : get_or wide at 0 ≡ get_or table j 0 = again at (omega arith) ∙ ap (λ k. get_or table k 0) (omega arith) in
    let here = get_or-swz_l_below w8 16 wide i (j ∷ js) 0 (omega arith) small ∙ same in
    λ p. here p ∷ looked_up wide table b n (suc i) js whole again (omega arith) h.1 p

high_small : (bytes : List ℕ) → Each1 (Fits w8) bytes → Each1 (λ j. j < 16) (map (λ b. b / 16) bytes)
high_small [] h = tt
high_small (b ∷ bytes) h = (omega (arith, h.0.fits), high_small bytes h.1)

low_small : (bytes : List ℕ) → Each1 (λ j. j < 16) (map (λ b. b % 16) bytes)
low_small [] = tt
low_small (b ∷ bytes) = (omega arith, low_small bytes)

high_is : (n : ℕ) (bytes : List ℕ) → length bytes ≡ n → zip2 (λ a b. a / 2 ^ b) bytes (replicate n 4) ≡ map (λ b. b / 16) bytes
high_is n bytes long = zip2_splat (λ a b. a / 2 ^ b) bytes n 4 long

low_is : (n : ℕ) (bytes : List ℕ) → length bytes ≡ n → zip2 bit_and bytes (replicate n 15) ≡ map (λ b. b % 16) bytes
low_is n bytes long = zip2_splat bit_and bytes n 15 long ∙ (λ p. map (λ b. and_mask b 4 p) bytes)

-- the values of digits may be looked up
pub high_ok : (b n : ℕ) (bytes : List ℕ) → n ≡ b * 16 → length bytes ≡ n → Each1 (Fits w8) bytes → SwzOk w8 16 n 0 (zip2 (λ a b. a / 2 ^ b) bytes (replicate n 4))
high_ok b n bytes whole long fits =
    let len = length-map bytes (λ b. b / 16) in
    subst (SwzOk w8 16 n 0) (sym (high_is n bytes long)) (SwzOk-from_below w8 16 b n 0 _ whole (omega arith) (high_small bytes fits))

pub low_ok : (b n : ℕ) (bytes : List ℕ) → n ≡ b * 16 → length bytes ≡ n → SwzOk w8 16 n 0 (zip2 bit_and bytes (replicate n 15))
low_ok b n bytes whole long =
    let len = length-map bytes (λ b. b % 16) in
    subst (SwzOk w8 16 n 0) (sym (low_is n bytes long)) (SwzOk-from_below w8 16 b n 0 _ whole (omega arith) (low_small bytes))

abbrev listed : (ℕ → ℕ) → ℕ → List ℕ
listed f n = map f (range_with_len 0 n)

-- a fact of each list of n numbers, from the same of n numbers written out
pub spelled : (P : List ℕ → Type 0) (n : ℕ) → ((f : ℕ → ℕ) → P (listed f n)) → (xs : List ℕ) → length xs ≡ n → P xs
spelled P n h xs long =
    let f = λ (k : ℕ). get_or xs k 0 in
    let many = length-map-range_with_len f 0 n in
    subst P (ext_get_or 0 _ xs (many ∙ sym long) (λ i l. get_or-map-range_with_len f 0 n i i 0 (omega arith) (omega arith))) (h f)

-- by turns a digit for the high four bits and one for the low four
abbrev turns : ℕ → List ℕ
turns n = map (λ i. i / 2 + i % 2 * n) (range_with_len 0 (2 * n))

-- the digits for the high four bits, and then those for the low four
abbrev halves : List ℕ → List ℕ → List ℕ
halves table bytes = map (λ j. get_or table j 0) (map (λ b. b / 16) bytes) ++ map (λ j. get_or table j 0) (map (λ b. b % 16) bytes)

abbrev InTurn : List ℕ → ℕ → List ℕ → Type 0
InTurn table n bytes = pick_l 0 (halves table bytes) (turns n) ≡ encode_with table bytes

pub in_turn_16 : (table bytes : List ℕ) → length bytes ≡ 16 → InTurn table 16 bytes
unfolding encode_with
in_turn_16 table = spelled (InTurn table 16) 16 (λ f. refl)

pub in_turn_32 : (table bytes : List ℕ) → length bytes ≡ 32 → InTurn table 32 bytes
unfolding encode_with
in_turn_32 table = spelled (InTurn table 32) 32 (λ f. refl)

pub digits_of_all : (wide table : List ℕ) (b n : ℕ) (bytes : List ℕ) → n ≡ b * 16 → Repeats wide table n → length bytes ≡ n → Each1 (Fits w8) bytes → InTurn table n bytes
    → pick_l 0 (swz_l w8 16 wide 0 (zip2 (λ a b. a / 2 ^ b) bytes (replicate n 4)) ++ swz_l w8 16 wide 0 (zip2 bit_and bytes (replicate n 15))) (turns n) ≡ encode_with table bytes
digits_of_all wide table b n bytes whole again long fits each =
    let len_high = length-map bytes (λ b. b / 16) in
    let len_low = length-map bytes (λ b. b % 16) in
    let high = ap (swz_l w8 16 wide 0) (high_is n bytes long) ∙ looked_up wide table b n 0 (map (λ b. b / 16) bytes) whole again (omega arith) (high_small bytes fits) in
    let low = ap (swz_l w8 16 wide 0) (low_is n bytes long) ∙ looked_up wide table b n 0 (map (λ b. b % 16) bytes) whole again (omega arith) (low_small bytes) in
    (λ p. pick_l 0 (high p ++ low p) (turns n)) ∙ each

-- four bytes, and zeros as far as sixteen
abbrev widened : List ℕ → List ℕ
widened bytes = pick_l 0 (bytes ++ replicate 4 0) (0 ∷ 1 ∷ 2 ∷ 3 ∷ 4 ∷ 4 ∷ 4 ∷ 4 ∷ 4 ∷ 4 ∷ 4 ∷ 4 ∷ 4 ∷ 4 ∷ 4 ∷ 4 ∷ [])

abbrev Begins : List ℕ → List ℕ → Type 0
Begins bytes digits = pick_l 0 (digits ++ digits) (0 ∷ 1 ∷ 2 ∷ 3 ∷ 4 ∷ 5 ∷ 6 ∷ 7 ∷ []) ≡ encode_lower bytes

pub digits_of_four : (bytes digits : List ℕ) → length bytes ≡ 4 → digits ≡ encode_lower (widened bytes) → Begins bytes digits
unfolding encode_with
digits_of_four bytes digits long is = subst (Begins bytes) (sym is) (spelled (λ four. Begins four (encode_lower (widened four))) 4 (λ f. refl) bytes long)

-- n bytes more are written
pub block_written : (bytes digits block : List ℕ) (n done : ℕ) → done + n ≤ length bytes → length digits ≡ 2 * length bytes → block ≡ encode_lower (chunk done n bytes)
    → take (2 * done) digits ≡ encode_lower (take done bytes) → take (2 * (done + n)) (put_chunk (2 * done) digits block) ≡ encode_lower (take (done + n) bytes)
block_written bytes digits block n done room len is before =
    let long = length-encode_with lower_digits (chunk done n bytes) in
    let many = length-chunk done n bytes room in
    let size = ap length is in
    take_more_put_chunk (2 * done) digits block (2 * (done + n)) (omega arith) (omega arith)
    ∙ (λ p. before p ++ is p) ∙ sym (encode-append (take done bytes) (chunk done n bytes)) ∙ ap encode_lower (sym (take-add done n bytes))

-- what was written at once, and the rest
pub rest_written : (bytes digits ys : List ℕ) (done k : ℕ) → length digits ≡ 2 * length bytes → 2 * done + k ≡ length digits
    → take (2 * done) digits ≡ encode_lower (take done bytes) → ys ≡ encode_lower (drop done bytes) → put_mid (2 * done) k digits ys ≡ encode_lower bytes
rest_written bytes digits ys done k len room before is =
    (λ p. before p ++ (is p ++ post_of (2 * done) k digits))
    ∙ ap (λ l. encode_lower (take done bytes) ++ (encode_lower (drop done bytes) ++ l)) (drop_all k (drop (2 * done) digits) (omega (arith, length-drop (2 * done) digits)))
    ∙ ap (λ l. encode_lower (take done bytes) ++ l) (append-nil (encode_lower (drop done bytes)))
    ∙ sym (encode-append (take done bytes) (drop done bytes)) ∙ ap encode_lower (take-append-drop done bytes)
