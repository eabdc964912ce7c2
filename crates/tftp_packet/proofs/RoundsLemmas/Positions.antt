-- Each number has one block near.
use Rattle.std.proofs.Common.{◌≡◌, ℕ, zero, suc, ◌+◌, ◌-◌, ◌%◌, ◌≤◌, inl, inr, refl, ◌∙◌, arith}
use Rattle.tftp_packet.specs.Rounds.{number_of, oldest_of, IsNear, half_round, Rollover, Zero, One, first_of, position_of}
use Rattle.tftp_packet.proofs.RoundsLemmas.Turns.{at_zero, at_one, found_by_zero, found_by_one, one_near_by_zero, one_near_by_one, numbers_by_zero, numbers_by_one}

pub is_near : (r : Rollover) (high n : ℕ) → n ≤ 65535 → IsNear (first_of r) high (position_of r high n)
is_near Zero high n small = found_by_zero high (oldest_of high) n refl (omega arith)
is_near One high zero small = inl (omega arith)
is_near One high (suc n) small = found_by_one high (oldest_of high - 1) n refl (omega arith)

pub has_number : (r : Rollover) (high n : ℕ) → n ≤ 65535 → number_of (first_of r) (position_of r high n) ≡ n
has_number Zero high n small = at_zero (oldest_of high) n (omega arith)
has_number One high zero small = refl
has_number One high (suc n) small = at_one (oldest_of high - 1) n (omega arith) ∙ omega arith

pub number_is_small : (r : Rollover) (k : ℕ) → number_of (first_of r) k ≤ 65535
number_is_small Zero k = let e = numbers_by_zero k in omega arith
number_is_small One zero = omega arith
number_is_small One (suc k) = let e = numbers_by_one k in omega arith

one_near : (r : Rollover) (high k j : ℕ) → number_of (first_of r) k ≡ number_of (first_of r) j → IsNear (first_of r) high k → IsNear (first_of r) high j → k ≡ j
one_near Zero high k j same near other = one_near_by_zero high k j same near other
one_near One high k j same near other = one_near_by_one high k j same near other

pub read_back : (r : Rollover) (high k : ℕ) → IsNear (first_of r) high k → position_of r high (number_of (first_of r) k) ≡ k
read_back r high k near =
    let n = number_of (first_of r) k in let small = number_is_small r k in
    one_near r high (position_of r high n) k (has_number r high n small) (is_near r high n small) near

-- a block of the first round that is not too old is near, and is its own number
pub low_is_near : (r : Rollover) (high k : ℕ) → k ≤ 65535 → high ≤ k + half_round → IsNear (first_of r) high k
low_is_near Zero high k low timely = inr (omega arith, omega arith)
low_is_near One high zero low timely = inl (omega arith)
low_is_near One high (suc k) low timely = inr (omega arith, omega arith)

-- as it is computed, from what is one less than the oldest that is not too old
pub position_by_one : (high n : ℕ) → 1 ≤ n → position_of One high n ≡ 1 + (oldest_of high - 1) + (65534 + n - (oldest_of high - 1) % 65535) % 65535
position_by_one high zero some = absurd (omega arith)
position_by_one high (suc n) some = omega arith

pub around_is_near : (r : Rollover) (high k : ℕ) → high ≤ k + half_round → k ≤ high + half_round → IsNear (first_of r) high k
around_is_near Zero high k old new = inr (omega arith, omega arith)
around_is_near One high zero old new = inl (omega arith)
around_is_near One high (suc k) old new = inr (omega arith, omega arith)
