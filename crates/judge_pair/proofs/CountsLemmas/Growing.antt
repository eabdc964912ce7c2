-- Of more packets no less is lost, and no less repeated; and of few datagrams no more than fits.
use Rattle.std.proofs.Common.{◌≡◌, ◌≤◌, ◌<◌, ◌⊎◌, ◌+◌, ◌-◌, ◌==◌, ◌&&◌, if◌then◌else◌, min, slice_index_or, ℕ, zero, suc, Bool, true, false, List, [], ◌∷◌, length, inl, inr, subst, sym, ap, refl, ◌∙◌, arith}
use Rattle.std.proofs.Math.Nat.{le-suc_iff}
use Rattle.std.proofs.lemmas.Bool.{cases_eq, cases_lt, ne_eqb}
use Rattle.std.proofs.lemmas.List.{get_or_past}
use Rattle.tftp_packet.specs.Hosts.{Datagram}
use Rattle.law_model.specs.Rules.{comes_in, goes_out}
use Rattle.judge_pair.specs.Counts.{AreBothWays, AreTooMany, IsSurplus, lost_below, packet_of, packets, repeated_below, sent, surplus_below, taken, times}

-- a function that no step makes less
grows : (f : ℕ → ℕ) → ((k : ℕ) → f k ≤ f (suc k)) → (n k : ℕ) → n ≤ k → f n ≤ f k
grows f step n zero le = let e : n ≡ zero = omega (arith, le) in subst (λ x. f x ≤ f zero) (sym e) (omega arith)
grows f step n (suc k) le = by (grows f step n k) (le-suc_iff.0 le) where
  by : (n ≤ k → f n ≤ f k) → (n ≤ k) ⊎ (n ≡ suc k) → f n ≤ f (suc k)
  by before (inl below) = let more = before below in let next = step k in omega (arith, more, next)
  by before (inr e) = subst (λ x. f x ≤ f (suc k)) (sym e) (omega arith)

surplus_grows : (more less : ℕ → ℕ) (n k : ℕ) → n ≤ k → surplus_below n more less ≤ surplus_below k more less
surplus_grows more less = grows (λ n. surplus_below n more less) (λ k. omega arith)

-- what is no less than what is over a limit is over it
above_limit : (limit so_far more next all : ℕ) → (so_far + more < limit → ⊥) → next ≡ so_far + more → next ≤ all → limit ≤ all
above_limit limit so_far more next all over is no_less = omega (arith, over, is, no_less)

-- Where a sum with the copies of one packet more is over a limit, the whole is.
pub surplus_over : (limit : ℕ) (more less : ℕ → ℕ) (packet so_far surplus above : ℕ) → packet < above → so_far ≡ surplus_below packet more less
    → surplus ≡ more packet - less packet → (so_far + surplus < limit → ⊥) → limit ≤ surplus_below above more less
surplus_over limit more less packet so_far surplus above below so_is is over =
    above_limit limit so_far surplus (surplus_below (suc packet) more less) (surplus_below above more less) over
    (omega (arith, so_is, is)) (surplus_grows more less (suc packet) above below)

pub one_surplus : (more less : ℕ → ℕ) (a b : ℕ) → IsSurplus more less a → IsSurplus more less b → a ≡ b
one_surplus more less a b this that = this packets refl ∙ sym (that packets refl)

pub sum_over : (limit sum there back a b : ℕ) → a ≡ there → b ≡ back → sum ≡ there + back → (a + b < limit → ⊥) → limit ≤ sum
sum_over limit sum there back a b a_is b_is is over = omega (arith, a_is, b_is, is, over)

-- behind the numbers that the one count has, it is above no other
surplus_past : (more less : ℕ → ℕ) (n : ℕ) → ((packet : ℕ) → n ≤ packet → more packet ≡ 0) → (above : ℕ) → n ≤ above → surplus_below above more less ≡ surplus_below n more less
surplus_past more less n none zero le = let e : n ≡ zero = omega (arith, le) in subst (λ x. surplus_below zero more less ≡ surplus_below x more less) (sym e) refl
surplus_past more less n none (suc above) le = elim (cases_eq n (suc above)) [
  | inl e ↦ subst (λ x. surplus_below (suc above) more less ≡ surplus_below x more less) (sym e) refl
  | inr other ↦
      let low : n ≤ above = omega (arith, le, other) in
      let before = surplus_past more less n none above low in
      let no_more = none above low in
      omega (arith, before, no_more)
]

pub surplus_of_list : (xs : List ℕ) (less : ℕ → ℕ) (n above : ℕ) → n ≡ min (length xs) above → surplus_below above (λ packet. slice_index_or xs packet 0) less ≡ surplus_below n (λ packet. slice_index_or xs packet 0) less
surplus_of_list xs less n above is = elim (cases_lt (length xs) above) [
  | inl past ↦
      let e : n ≡ length xs = omega (arith, is, past) in
      surplus_past (λ packet. slice_index_or xs packet 0) less n (λ packet low. get_or_past xs packet 0 (omega (arith, low, e))) above (omega (arith, past, e))
  | inr within ↦
      let e : n ≡ above = omega (arith, is, within) in
      subst (λ x. surplus_below above (λ packet. slice_index_or xs packet 0) less ≡ surplus_below x (λ packet. slice_index_or xs packet 0) less) (sym e) refl
]

-- ---- how many can be lost

-- of all packets with a lower number
abbrev all_below : ℕ → (ℕ → ℕ) → ℕ
all_below zero f = 0
all_below (suc n) f = all_below n f + f n

surplus_all : (more less : ℕ → ℕ) (n : ℕ) → surplus_below n more less ≤ all_below n more
surplus_all more less zero = omega arith
surplus_all more less (suc n) = let low = surplus_all more less n in omega (arith, low)

all_none : (n : ℕ) → all_below n (λ packet. 0) ≡ 0
all_none zero = refl
all_none (suc n) = let none = all_none n in omega (arith, none)

all_sum : (f g : ℕ → ℕ) (n : ℕ) → all_below n (λ packet. f packet + g packet) ≡ all_below n f + all_below n g
all_sum f g zero = refl
all_sum f g (suc n) = let sum = all_sum f g n in omega (arith, sum)

-- a datagram is a copy of one packet at most
abbrev copy_of : Bool → ℕ → ℕ → ℕ
copy_of goes number packet = if goes && number == packet then 1 else 0

one_or_none : (goes : Bool) (number packet : ℕ) → copy_of goes number packet ≤ 1
one_or_none goes number packet = by (goes && number == packet) where
  by : (b : Bool) → (if b then 1 else 0) ≤ 1
  by true = omega arith
  by false = omega arith

of_another : (goes : Bool) (number packet : ℕ) → (number ≡ packet → ⊥) → copy_of goes number packet ≡ 0
of_another true number packet other = ap (λ b. if b then 1 else 0) (ne_eqb number packet other)
of_another false number packet other = refl

none_below : (goes : Bool) (number n : ℕ) → n ≤ number → all_below n (copy_of goes number) ≡ 0
none_below goes number zero le = refl
none_below goes number (suc n) le =
    let before = none_below goes number n (omega (arith, le)) in
    let this = of_another goes number n (λ same. omega (arith, same, le)) in
    omega (arith, before, this)

one_below : (goes : Bool) (number n : ℕ) → all_below n (copy_of goes number) ≤ 1
one_below goes number zero = omega arith
one_below goes number (suc n) = elim (cases_eq number n) [
  | inl same ↦
      let before = none_below goes number n (omega (arith, same)) in
      let this = one_or_none goes number n in
      omega (arith, before, this)
  | inr other ↦
      let before = one_below goes number n in
      let this = of_another goes number n other in
      omega (arith, before, this)
]

-- so all copies together are as many as the datagrams at most
times_within : (goes : Datagram → Bool) (n : ℕ) (passed : List Datagram) → all_below n (λ packet. times goes packet passed) ≤ length passed
times_within goes n [] = let none = all_none n in omega (arith, none)
times_within goes n (d ∷ passed) =
    let sum = all_sum (copy_of (goes d) (packet_of d.payload)) (λ packet. times goes packet passed) n in
    let this = one_below (goes d) (packet_of d.payload) n in
    let others = times_within goes n passed in
    omega (arith, sum, this, others)

lost_within : (n : ℕ) (from to : List Datagram) → lost_below n from to ≤ length from
lost_within n from to =
    let low = surplus_all (λ packet. sent packet from) (λ packet. taken packet to) n in
    let all = times_within goes_out n from in
    omega (arith, low, all)

repeated_within : (n : ℕ) (from to : List Datagram) → repeated_below n from to ≤ length to
repeated_within n from to =
    let low = surplus_all (λ packet. taken packet to) (λ packet. sent packet from) n in
    let all = times_within comes_in n to in
    omega (arith, low, all)

both_ways : (more less : List Datagram → List Datagram → ℕ → ℕ) (n : ℕ) (one other : List Datagram) → n ≡ packets
    → AreBothWays (λ from to. IsSurplus (more from to) (less from to)) one other (surplus_below n (more one other) (less one other) + surplus_below n (more other one) (less other one))
both_ways more less n one other all = record {
  there = surplus_below n (more one other) (less one other);
  back = surplus_below n (more other one) (less other one);
  are_there = λ above is. ap (λ m. surplus_below m (more one other) (less one other)) (all ∙ sym is);
  are_back = λ above is. ap (λ m. surplus_below m (more other one) (less other one)) (all ∙ sym is);
  sum = refl;
}

-- More copies are lost, or made, than fit 64 bits only among as many datagrams as that.
many_among : (n : ℕ) (one other : List Datagram) → n ≡ packets → AreTooMany one other → 18446744073709551616 ≤ length one + length other
many_among n one other all many = by (many (lost_below n one other + lost_below n other one) (repeated_below n one other + repeated_below n other one)
    (both_ways (λ from to packet. sent packet from) (λ from to packet. taken packet to) n one other all)
    (both_ways (λ from to packet. taken packet to) (λ from to packet. sent packet from) n one other all)) where
      by : (18446744073709551616 ≤ lost_below n one other + lost_below n other one) ⊎ (18446744073709551616 ≤ repeated_below n one other + repeated_below n other one) → 18446744073709551616 ≤ length one + length other
      by (inl over) = let there = lost_within n one other in let back = lost_within n other one in omega (arith, over, there, back)
      by (inr over) = let there = repeated_within n one other in let back = repeated_within n other one in omega (arith, over, there, back)

pub many_of_many : (one other : List Datagram) → AreTooMany one other → 18446744073709551616 ≤ length one + length other
many_of_many one other = many_among packets one other refl
