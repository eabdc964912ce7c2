-- Which block a number means. Of the blocks that have it one is near: at most half a round older than the highest block that
-- has passed, and less than a round newer than what is so old. So serial numbers are compared (RFC 1982, section 3.2), and
-- half a round is as far as there, less one for a round of 65535.
use Rattle.std.specs.Prelude.{◌⊎◌, ℕ, zero, suc, ◌+◌, ◌-◌, ◌%◌, ◌<◌, ◌≤◌, max}
use Rattle.tftp_packet.specs.Rounds.Numbers.{round_of}
use Rattle.tftp_packet.specs.declared.rounds.rollover.Rollover.{Rollover}
use Rattle.tftp_packet.specs.declared.rounds.rollover.Rollover.TheVariants.{Zero, One}

abbrev pub half_round : ℕ
half_round = 32767

-- the oldest block that is not too old, and the oldest of these whose number comes again
abbrev pub oldest_of : (high : ℕ) → ℕ
oldest_of high = high - half_round

abbrev pub oldest_again : (first high : ℕ) → ℕ
oldest_again first high = max first (oldest_of high)

-- Block k is near where block `high` is the highest that has passed. Where 1 comes after 65535, no block after the start has
-- the number 0, which so means the start however late it comes.
abbrev pub IsNear : (first high k : ℕ) → Type 0
IsNear first high k =
    (k < first) ⊎ ((oldest_again first high ≤ k) × (k < oldest_again first high + round_of first))

-- how far from `low` on is the next of these numbers, which come again after `round`
abbrev pub ahead : (round low n : ℕ) → ℕ
ahead round low n = (round + n - low % round) % round

-- the block near that has this number
abbrev pub position_of : Rollover → (high n : ℕ) → ℕ
position_of Zero high n = oldest_of high + ahead 65536 (oldest_of high) n
position_of One high zero = 0
position_of One high (suc n) = suc ((oldest_of high - 1) + ahead 65535 (oldest_of high - 1) n)
