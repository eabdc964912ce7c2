-- The loop over pairs of hex digits, step by step.
use Rattle.std.proofs.Common.{◌≡◌, ℕ, ◌+◌, ◌*◌, ◌%◌, ◌<◌, ◌≤◌, ◌⊎◌, inl, inr, List, [], ◌∷◌, length, take, drop, slice_index, slice_set, Option, Some, None, Result, Ok, Err, refl, sym, ap, ◌∙◌, arith, MatchOption, IsErr}
use Rattle.std.proofs.lemmas.Bool.{cases_lt}
use Rattle.std.proofs.lemmas.List.{append-nil, take_all, take_more_set}
use Rattle.hex.specs.Hex.{decode_of, decode_pairs, digit_or_error, hex_digit_value, pair_value, value_at, ◌>>=◌}
use Rattle.hex.specs.declared.error.FromHexError.{FromHexError}
use Rattle.hex.proofs.Pairs.{cons_byte, decode_pairs-ok_pair, prepend, prepend-cons_byte}
use Rattle.hex.proofs.HexLemmas.{decode_of-even}
use Rattle.net_streams.specs.Digits.{IsNibble}
use Prim.Native.Nat.{max}

-- i bytes of out are written, rest is to come, and most is the greatest nibble so far
pub record Decodes (digits out rest : List ℕ) (i most : ℕ) : Type 0 where
  pub long : length rest + 2 * i ≡ length digits
  pub good : most < 16 → decode_pairs 0 digits ≡ prepend (take i out) (decode_pairs (2 * i) rest)
  pub bad : 16 ≤ most → IsErr (decode_pairs 0 digits)

-- a digit's value is below 16
hex_digit_value-small : (c v : ℕ) → hex_digit_value c ≡ Some v → v < 16
hex_digit_value-small c v h = grind (arith)

-- a nibble below 16 is the digit's value
value_ok : (c i n : ℕ) (o : Option ℕ) → MatchOption o (16 ≤ n) (λ v. n ≡ v) → n < 16 → digit_or_error c i o ≡ Ok n
value_ok c i n (Some v) e lt = ap Ok (sym e)
value_ok c i n None e lt = absurd (omega arith)

-- a nibble from 16 on is no digit's
value_err : (c i n : ℕ) (o : Option ℕ) → ((v : ℕ) → o ≡ Some v → v < 16) → MatchOption o (16 ≤ n) (λ v. n ≡ v) → 16 ≤ n → IsErr (digit_or_error c i o)
value_err c i n (Some v) small e le = let lt = small v refl in absurd (omega arith)
value_err c i n None small e le = refl

pub pair_ok : (a b i h l : ℕ) → IsNibble a h → IsNibble b l → h < 16 → l < 16 → pair_value a b i ≡ Ok (h * 16 + l)
pair_ok a b i h l ha lb hs ls =
    let first : value_at a i ≡ Ok h = value_ok a i h (hex_digit_value a) ha hs in
    let second : value_at b (i + 1) ≡ Ok l = value_ok b (i + 1) l (hex_digit_value b) lb ls in
    rw (first, second) refl

either_err : (r s : Result ℕ FromHexError) → IsErr r ⊎ IsErr s → IsErr (r >>= (λ h. s >>= (λ l. Ok (h * 16 + l))))
either_err (Err e) s h = refl
either_err (Ok x) (Err e) h = refl
either_err (Ok x) (Ok y) (inl h) = cc h
either_err (Ok x) (Ok y) (inr h) = cc h

pub pair_err : (a b i h l : ℕ) → IsNibble a h → IsNibble b l → (16 ≤ h) ⊎ (16 ≤ l) → IsErr (pair_value a b i)
pair_err a b i h l ha lb (inl le) = either_err (value_at a i) (value_at b (i + 1)) (inl (value_err a i h (hex_digit_value a) (hex_digit_value-small a) ha le))
pair_err a b i h l ha lb (inr le) = either_err (value_at a i) (value_at b (i + 1)) (inr (value_err b (i + 1) l (hex_digit_value b) (hex_digit_value-small b) lb le))

pub bind_err : (r : Result ℕ FromHexError) (f : ℕ → Result (List ℕ) FromHexError) (front : List ℕ) → IsErr r → IsErr (prepend front (r >>= f))
bind_err (Err e) f front h = refl
bind_err (Ok x) f front h = cc h

-- what is left has a pair in front
two_more : (xs : List ℕ) → 2 ≤ length xs → xs ≡ slice_index xs 0 ∷ slice_index xs 1 ∷ drop 2 xs
two_more [] h = absurd (omega arith)
two_more (a ∷ []) h = absurd (omega arith)
two_more (a ∷ b ∷ rest) h = refl

-- one byte more is decoded
good_step : (digits out rest : List ℕ) (i a b v : ℕ) → i < length out → pair_value a b (2 * i) ≡ Ok v
    → decode_pairs 0 digits ≡ prepend (take i out) (decode_pairs (2 * i) (a ∷ b ∷ rest))
    → decode_pairs 0 digits ≡ prepend (take (i + 1) (slice_set out i v)) (decode_pairs (2 * (i + 1)) rest)
good_step digits out rest i a b v room ok inv =
    let two : 2 * i + 2 ≡ 2 * (i + 1) = omega arith in
    inv ∙ ap (prepend (take i out)) (decode_pairs-ok_pair (2 * i) a b v rest ok ∙ ap (λ (k : ℕ). cons_byte v (decode_pairs k rest)) two)
    ∙ prepend-cons_byte (take i out) v _
    ∙ ap (λ (f : List ℕ). prepend f (decode_pairs (2 * (i + 1)) rest)) (sym (take_more_set out i v room))

-- a pair is refused
bad_step : (digits out rest : List ℕ) (i a b : ℕ) → IsErr (pair_value a b (2 * i))
    → decode_pairs 0 digits ≡ prepend (take i out) (decode_pairs (2 * i) (a ∷ b ∷ rest))
    → IsErr (decode_pairs 0 digits)
unfolding decode_pairs
bad_step digits out rest i a b bad inv = rw inv (bind_err (pair_value a b (2 * i)) _ (take i out) bad)

pub decodes_more : (digits out rest next : List ℕ) (i most h l top : ℕ) → next ≡ drop 2 rest → top ≡ max (max most h) l → i < length out → 2 ≤ length rest
    → IsNibble (slice_index rest 0) h → IsNibble (slice_index rest 1) l
    → Decodes digits out rest i most
    → Decodes digits (slice_set out i ((h * 16 % 256 + l) % 256)) next (i + 1) top
decodes_more digits out rest next i most h l top is_rest is_top room more first second d =
    let pair = two_more rest more in
    let a : ℕ = slice_index rest 0 in
    let b : ℕ = slice_index rest 1 in
    let was : most < 16 → decode_pairs 0 digits ≡ prepend (take i out) (decode_pairs (2 * i) (a ∷ b ∷ drop 2 rest)) =
    λ lt. d.good lt ∙ ap (λ (r : List ℕ). prepend (take i out) (decode_pairs (2 * i) r)) pair in
    rw (is_rest, is_top) (record {
      long = let e = ap length pair in let f = d.long in omega (arith, e, f);
      good = λ lt.
          let hs : h < 16 = omega arith in
          let ls : l < 16 = omega arith in
          let v : h * 16 + l ≡ (h * 16 % 256 + l) % 256 = omega arith in
          good_step digits out (drop 2 rest) i a b _ room (pair_ok a b (2 * i) h l first second hs ls ∙ ap Ok v) (was (omega arith));
      bad = λ le. elim (cases_lt most 16) [
        | inl lt ↦ elim (cases_lt h 16) [
          | inl hs ↦ bad_step digits out (drop 2 rest) i a b (pair_err a b (2 * i) h l first second (inr (omega arith))) (was lt)
          | inr hl ↦ bad_step digits out (drop 2 rest) i a b (pair_err a b (2 * i) h l first second (inl (omega arith))) (was lt)
        ]
        | inr ge ↦ d.bad (omega arith)
      ];
    })

-- every pair is a pair of digits
pub all_decoded : (digits out rest : List ℕ) (i most : ℕ) → length out ≤ i → length digits ≡ 2 * length out → most < 16
    → Decodes digits out rest i most → decode_of digits ≡ Ok out
unfolding decode_pairs
all_decoded digits out [] i most end long lt d =
    decode_of-even digits (omega arith) ∙ d.good lt ∙ ap Ok (append-nil (take i out) ∙ take_all i out end)
all_decoded digits out (a ∷ rest) i most end long lt d = absurd (let e = d.long in omega (arith, e))
