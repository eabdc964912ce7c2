-- The numbers in closed form, and the one block near that has a number.
use Rattle.std.proofs.Common.{◌≡◌, ℕ, zero, suc, ◌+◌, ◌-◌, ◌%◌, ◌<◌, ◌≤◌, ◌⊎◌, inl, inr, refl, sym, ap, ◌∙◌, arith}
use Rattle.tftp_packet.specs.Rounds.{after, number_of, IsNear, ahead}

-- ---- closed forms

turns : (first n : ℕ) → n ≡ 65535 → after first n ≡ first
turns first n is = grind arith

goes_on : (first n : ℕ) → n < 65535 → after first n ≡ n + 1
goes_on first n below = grind arith

pub low_numbers : (first k : ℕ) → k ≤ 65535 → number_of first k ≡ k
low_numbers first zero below = refl
low_numbers first (suc k) below = ap (after first) (low_numbers first k (omega arith)) ∙ (goes_on first k (omega arith) ∙ omega arith)

by_zero : (n k : ℕ) → (n ≡ 65535) ⊎ (n < 65535) → n ≡ k % 65536 → after 0 n ≡ (k + 1) % 65536
by_zero n k (inl is) of = turns 0 n is ∙ omega arith
by_zero n k (inr below) of = goes_on 0 n below ∙ omega arith

last_or_not : (n : ℕ) → n < 65536 → (n ≡ 65535) ⊎ (n < 65535)
last_or_not n below = grind arith

pub numbers_by_zero : (k : ℕ) → number_of 0 k ≡ k % 65536
numbers_by_zero zero = refl
numbers_by_zero (suc k) = let e = numbers_by_zero k in by_zero (number_of 0 k) k (last_or_not (number_of 0 k) (omega arith)) e ∙ omega arith

by_one : (n k : ℕ) → (n ≡ 65535) ⊎ (n < 65535) → n ≡ k % 65535 + 1 → after 1 n ≡ (k + 1) % 65535 + 1
by_one n k (inl is) of = turns 1 n is ∙ omega arith
by_one n k (inr below) of = goes_on 1 n below ∙ omega arith

pub numbers_by_one : (k : ℕ) → number_of 1 (suc k) ≡ k % 65535 + 1
numbers_by_one zero = refl
numbers_by_one (suc k) = let e = numbers_by_one k in by_one (number_of 1 (suc k)) k (last_or_not (number_of 1 (suc k)) (omega arith)) e ∙ omega arith

-- ---- one block near

pub one_near_by_zero : (high k j : ℕ) → number_of 0 k ≡ number_of 0 j → IsNear 0 high k → IsNear 0 high j → k ≡ j
one_near_by_zero high k j same near other = let e = numbers_by_zero k in let f = numbers_by_zero j in omega arith

pub one_near_by_one : (high k j : ℕ) → number_of 1 k ≡ number_of 1 j → IsNear 1 high k → IsNear 1 high j → k ≡ j
one_near_by_one high zero zero same near other = refl
one_near_by_one high zero (suc j) same near other = let f = numbers_by_one j in absurd (omega arith)
one_near_by_one high (suc k) zero same near other = let e = numbers_by_one k in absurd (omega arith)
one_near_by_one high (suc k) (suc j) same near other = let e = numbers_by_one k in let f = numbers_by_one j in omega arith

-- ---- and there is one

pub at_zero : (low n : ℕ) → n < 65536 → number_of 0 (low + ahead 65536 low n) ≡ n
at_zero low n below = let e = numbers_by_zero (low + ahead 65536 low n) in omega arith

pub at_one : (low n : ℕ) → n < 65535 → number_of 1 (suc (low + ahead 65535 low n)) ≡ n + 1
at_one low n below = let e = numbers_by_one (low + ahead 65535 low n) in omega arith

-- ---- and it is found

pub found_by_zero : (high floor n : ℕ) → floor ≡ high - 32767 → n < 65536 → IsNear 0 high (floor + ahead 65536 floor n)
found_by_zero high floor n is below = inr (omega arith, omega arith)

pub only_by_zero : (high floor n : ℕ) → floor ≡ high - 32767 → n < 65536 → (k : ℕ) → number_of 0 k ≡ n → IsNear 0 high k → k ≡ floor + ahead 65536 floor n
only_by_zero high floor n is below k number near = one_near_by_zero high k (floor + ahead 65536 floor n) (number ∙ sym (at_zero floor n below)) near (found_by_zero high floor n is below)

-- the block after `below` blocks, where `below` is one less than the oldest that is not too old
pub found_by_one : (high below n : ℕ) → below ≡ high - 32767 - 1 → n < 65535 → IsNear 1 high (suc (below + ahead 65535 below n))
found_by_one high below n is small = inr (omega arith, omega arith)

pub only_by_one : (high below n : ℕ) → below ≡ high - 32767 - 1 → n < 65535 → (k : ℕ) → number_of 1 k ≡ n + 1 → IsNear 1 high k → k ≡ suc (below + ahead 65535 below n)
only_by_one high below n is small k number near = one_near_by_one high k (suc (below + ahead 65535 below n)) (number ∙ sym (at_one below n small)) near (found_by_one high below n is small)
