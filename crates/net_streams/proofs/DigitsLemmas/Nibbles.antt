-- The arithmetic of one hex digit, by its 256 cases, alone and in the lanes of a vector.
use Rattle.std.proofs.Common.{refl, ◌≡◌, ℕ, zero, suc, ◌+◌, ◌-◌, ◌%◌, ◌<◌, ◌≤◌, ◌==◌, nat_le, Bool, true, ◌&&◌, inl, inr, Option, Some, None, bit_and, arith, MatchOption, List, [], ◌∷◌, length, map, get_or, replicate, Fits, w8}
use Rattle.std.specs.Simd.Lanes.{zip2, Each1, sel_l, top}
use Rattle.std.proofs.lemmas.Bool.{and_parts, cases_lt, eqb-true}
use Rattle.hex.specs.Hex.{hex_digit_value}
use Rattle.net_streams.specs.Digits.{AreNibbles, IsNibble}
use Prim.Native.Nat.{min}
use borrow.Author.Tests.{leb-true}
use lib.Dec.{ltb}
use mathlib.Core.Bool.{cond}

-- what the arithmetic answers
abbrev pub nibble_of : ℕ → ℕ
nibble_of byte = min (((byte + 198) % 256 - 6 + 16) % 256) ((bit_and ((byte + 191) % 256) 223 + 10) % 256)

-- the test of one byte, which computes
abbrev fits : Option ℕ → ℕ → Bool
fits None n = nat_le 16 n
fits (Some value) n = n == value

-- the test of the first n bytes
abbrev all_fit : (ℕ → ℕ) → ℕ → Bool
all_fit answer zero = true
all_fit answer (suc n) = fits (hex_digit_value n) (answer n) && all_fit answer n

-- a byte below n passed the test
all_fit-at : (answer : ℕ → ℕ) (n k : ℕ) → all_fit answer n ≡ true → k < n → fits (hex_digit_value k) (answer k) ≡ true
all_fit-at answer zero k h lt = absurd (omega arith)
all_fit-at answer (suc n) k h lt =
    let parts = and_parts (fits (hex_digit_value n) (answer n)) (all_fit answer n) h in
    elim (cases_lt k n) [
      | inl below ↦ all_fit-at answer n k parts.1 below
      | inr top ↦
          let e : k ≡ n = omega arith in
          rw e parts.0
    ]

-- what the test shows of one byte
fits-means : (o : Option ℕ) (n : ℕ) → fits o n ≡ true → MatchOption o (16 ≤ n) (λ value. n ≡ value)
fits-means None n h = leb-true 16 n h
fits-means (Some value) n h = eqb-true n value h

pub IsNibble-nibble_of : (byte : ℕ) → byte < 256 → IsNibble byte (nibble_of byte)
IsNibble-nibble_of byte h = fits-means (hex_digit_value byte) (nibble_of byte) (all_fit-at nibble_of 256 byte refl h)

-- ---- the same in the lanes of a vector

abbrev plus : List ℕ → List ℕ → List ℕ
plus xs ys = zip2 (λ a b. (a + b) % 256) xs ys

abbrev minus : List ℕ → List ℕ → List ℕ
minus xs ys = zip2 (λ a b. (a + (256 - b)) % 256) xs ys

abbrev where_below : List ℕ → List ℕ → List ℕ → List ℕ → List ℕ
where_below lower upper xs ys = sel_l (map (top 7) (zip2 (λ a b. cond (ltb a b) 255 0) lower upper)) xs ys

abbrev down_to_zero : List ℕ → List ℕ → List ℕ
down_to_zero xs ys = minus (where_below xs ys ys xs) ys

-- what the arithmetic answers in n lanes
abbrev pub nibbles_of : ℕ → List ℕ → List ℕ
nibbles_of n xs =
    let digit = minus (down_to_zero (plus xs (replicate n 198)) (replicate n 6)) (replicate n 240) in
    let letter = plus (zip2 bit_and (minus xs (replicate n 65)) (replicate n 223)) (replicate n 10) in
    where_below digit letter digit letter

abbrev in_a_lane : ℕ → ℕ
in_a_lane byte = get_or (nibbles_of 1 (byte ∷ [])) 0 0

pub AreNibbles-nibbles_of : (bytes : List ℕ) → Each1 (Fits w8) bytes → AreNibbles bytes (nibbles_of (length bytes) bytes)
AreNibbles-nibbles_of [] h = tt
AreNibbles-nibbles_of (byte ∷ bytes) h =
    (fits-means (hex_digit_value byte) (in_a_lane byte) (all_fit-at in_a_lane 256 byte refl (omega (arith, h.0.fits))), AreNibbles-nibbles_of bytes h.1)
