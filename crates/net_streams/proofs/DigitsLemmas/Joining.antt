-- Digits that are decoded in the lanes of a vector, and piece by piece.
use Rattle.std.proofs.Common.{◌≡◌, ℕ, zero, suc, ◌+◌, ◌*◌, ◌%◌, ◌<◌, ◌≤◌, ◌^◌, nat_eq, Bool, true, false, inl, inr, List, [], ◌∷◌, ◌++◌, length, map, get_or, replicate, Result, Ok, Err, refl, sym, ap, subst, ◌∙◌, arith, IsErr}
use Rattle.std.specs.Simd.Lanes.{zip2, mask_l, top, put_chunk, chunk}
use Rattle.std.proofs.lemmas.Bool.{cases_lt}
use Rattle.std.proofs.lemmas.Simd.{length-replicate, length-zip2, mask_l-mod, put_chunk_whole}
use Rattle.std.proofs.lemmas.List.{length-map, take_all}
use Rattle.hex.specs.Hex.{decode_of, decode_pairs, pair_value}
use Rattle.hex.specs.declared.error.FromHexError.{FromHexError}
use Rattle.hex.proofs.HexLemmas.{decode_of-even}
use Rattle.hex.proofs.Pairs.{cons_byte, decode_pairs-ok_pair, prepend}
use Rattle.net_streams.specs.Digits.{AreNibbles}
use Rattle.net_streams.proofs.DigitsLemmas.Pairs.{pair_ok, pair_err, bind_err}
use Rattle.net_streams.proofs.DigitsLemmas.Lanes.{spelled}
use Rattle.std.proofs.lemmas.Bool.{eqb-true}
use borrow.Author.Tests.{eqb-false, le-ltb, lt-ltb}
use lib.Dec.{ltb}
use mathlib.Core.Bool.{cond}

-- each two nibbles in one byte, the high one first
abbrev pub joined : List ℕ → List ℕ
joined (high ∷ low ∷ nibbles) = (high * 16 % 256 + low) % 256 ∷ joined nibbles
joined _ = []

-- whether a nibble is none, as the lanes say it
abbrev is_none : ℕ → Bool
is_none n = top 7 (cond (ltb 15 n) 255 0)

-- which nibbles are none
abbrev pub are_none : ℕ → List ℕ → List Bool
are_none count nibbles = map (top 7) (zip2 (λ a b. cond (ltb a b) 255 0) (replicate count 15) nibbles)

length_none : (count : ℕ) (nibbles : List ℕ) → length nibbles ≡ count → length (are_none count nibbles) ≡ count
length_none count nibbles long =
    let many = length-replicate count 15 in
    length-map _ (top 7) ∙ length-zip2 (λ a b. cond (ltb a b) 255 0) (replicate count 15) nibbles (many ∙ sym long) ∙ many

is_none-small : (n : ℕ) → n < 16 → is_none n ≡ false
is_none-small n lt = rw (le-ltb 15 n (omega arith)) refl

is_none-large : (n : ℕ) → 16 ≤ n → is_none n ≡ true
is_none-large n le = rw (lt-ltb 15 n (omega arith)) refl

-- nothing before what can't be decoded
no_bytes : (r : Result (List ℕ) FromHexError) → IsErr (prepend [] r) → IsErr r
no_bytes (Err e) h = refl
no_bytes (Ok bytes) h = cc h

-- a byte before what can't be decoded
cons_err : (v : ℕ) (r : Result (List ℕ) FromHexError) → IsErr r → IsErr (cons_byte v r)
cons_err v (Err e) h = refl
cons_err v (Ok bytes) h = cc h

-- the digits are decoded exactly where no nibble is none
pub in_lanes : (k : ℕ) (digits nibbles : List ℕ) → AreNibbles digits nibbles → length digits % 2 ≡ 0
    → (mask_l (are_none (length nibbles) nibbles) ≡ 0 → decode_pairs k digits ≡ Ok (joined nibbles)) × (0 < mask_l (are_none (length nibbles) nibbles) → IsErr (decode_pairs k digits))
unfolding decode_pairs
in_lanes k [] [] are even = (λ none. refl, λ some. absurd (omega arith))
in_lanes k [] (h ∷ _) are even = elim are [ ]
in_lanes k (a ∷ []) nibbles are even = absurd (omega arith)
in_lanes k (a ∷ (b ∷ digits)) [] are even = elim are [ ]
in_lanes k (a ∷ (b ∷ digits)) (h ∷ []) are even = elim are.1 [ ]
in_lanes k (a ∷ b ∷ digits) (h ∷ l ∷ nibbles) are even =
    let rest = in_lanes (k + 2) digits nibbles are.1.1 (omega arith) in
    elim (cases_lt h 16) [
      | inl hs ↦ elim (cases_lt l 16) [
        | inl ls ↦
            let eh = is_none-small h hs in
            let el = is_none-small l ls in
            let here = decode_pairs-ok_pair k a b (h * 16 + l) digits (pair_ok a b k h l are.0 are.1.0 hs ls) in
            let v : h * 16 + l ≡ (h * 16 % 256 + l) % 256 = omega arith in (
              λ none. here ∙ ap (cons_byte (h * 16 + l)) (rest.0 (let z = rw (eh, el) at none in omega (arith, z))) ∙ ap (λ n. Ok (n ∷ joined nibbles)) v,
              λ some. subst (λ r. IsErr r) (sym here) (cons_err _ _ (rest.1 (let z = rw (eh, el) at some in omega (arith, z)))),
            )
        | inr ll ↦
            let el = is_none-large l ll in
            (λ none. absurd (let z = rw el at none in omega (arith, z)), λ some. no_bytes _ (bind_err (pair_value a b k) _ [] (pair_err a b k h l are.0 are.1.0 (inr ll))))
      ]
      | inr hl ↦
          let eh = is_none-large h hl in
          (λ none. absurd (let z = rw eh at none in omega (arith, z)), λ some. no_bytes _ (bind_err (pair_value a b k) _ [] (pair_err a b k h l are.0 are.1.0 (inl hl))))
    ]

-- ---- what is read of so many lanes

-- the nibbles of all that is loaded
pub loaded : (count : ℕ) (digits nibbles : List ℕ) → length digits ≡ count → AreNibbles (chunk 0 count digits) nibbles → AreNibbles digits nibbles
loaded count digits nibbles long = subst (λ l. AreNibbles l nibbles) (take_all count digits (omega (arith, long)))

pub length_nibbles : (digits nibbles : List ℕ) → AreNibbles digits nibbles → length nibbles ≡ length digits
length_nibbles [] [] are = refl
length_nibbles [] (n ∷ _) are = elim are [ ]
length_nibbles (digit ∷ digits) [] are = elim are [ ]
length_nibbles (digit ∷ digits) (n ∷ nibbles) are = ap suc (length_nibbles digits nibbles are.1)

-- each two nibbles in one byte, as lanes are picked
abbrev pub pairs_from : ℕ → ℕ → List ℕ → List ℕ
pairs_from i zero nibbles = []
pairs_from i (suc n) nibbles = (get_or (nibbles ++ nibbles) (2 * i) 0 * 16 % 256 + get_or (nibbles ++ nibbles) (2 * i + 1) 0) % 256 ∷ pairs_from (i + 1) n nibbles

pub pairs_of_16 : (nibbles : List ℕ) → length nibbles ≡ 16 → pairs_from 0 8 nibbles ≡ joined nibbles
pairs_of_16 = spelled (λ nibbles. pairs_from 0 8 nibbles ≡ joined nibbles) 16 (λ f. refl)

pub pairs_of_8 : (nibbles : List ℕ) → length nibbles ≡ 8 → pairs_from 0 4 nibbles ≡ joined nibbles
pairs_of_8 = spelled (λ nibbles. pairs_from 0 4 nibbles ≡ joined nibbles) 8 (λ f. refl)

-- where no lane is none
pub lanes_decoded : (digits nibbles bytes pairs : List ℕ) (count : ℕ) → AreNibbles digits nibbles → length nibbles ≡ count → count ≤ 64 → length digits % 2 ≡ 0 → pairs ≡ joined nibbles → length bytes ≡ length pairs
    → nat_eq (mask_l (are_none count nibbles) % 2 ^ 64) 0 ≡ true → decode_of digits ≡ Ok (put_chunk 0 bytes pairs)
lanes_decoded digits nibbles bytes pairs count are long most even is same none =
    let whole = mask_l-mod (are_none count nibbles) 64 (omega (arith, length_none count nibbles long)) in
    let zero_mask = sym whole ∙ eqb-true _ 0 none in
    decode_of-even digits even ∙ (in_lanes 0 digits nibbles are even).0 (subst (λ n. mask_l (are_none n nibbles) ≡ 0) (sym long) zero_mask)
    ∙ ap Ok (sym (put_chunk_whole bytes pairs same ∙ is))

-- where one is
pub lanes_refused : (digits nibbles : List ℕ) (count : ℕ) → AreNibbles digits nibbles → length nibbles ≡ count → count ≤ 64 → length digits % 2 ≡ 0
    → nat_eq (mask_l (are_none count nibbles) % 2 ^ 64) 0 ≡ false → IsErr (decode_of digits)
lanes_refused digits nibbles count are long most even some =
    let whole = mask_l-mod (are_none count nibbles) 64 (omega (arith, length_none count nibbles long)) in
    let mask = mask_l (are_none count nibbles) in
    elim (cases_lt 0 mask) [
      | inl pos ↦ subst (λ r. IsErr r) (sym (decode_of-even digits even)) ((in_lanes 0 digits nibbles are even).1 (subst (λ n. 0 < mask_l (are_none n nibbles)) (sym long) pos))
      | inr zero_mask ↦ absurd (eqb-false _ 0 some (whole ∙ omega (arith, zero_mask)))
    ]
