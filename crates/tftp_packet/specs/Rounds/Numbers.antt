-- The numbers of blocks that begin again. A block's number has two bytes, and no RFC says what comes after 65535
-- (RFC 1350, section 5). Software goes on with 0 or with 1.
use Rattle.std.specs.Prelude.{ℕ, zero, suc, ◌+◌, ◌-◌, ◌==◌, if◌then◌else◌}
use Rattle.tftp_packet.specs.declared.rounds.rollover.Rollover.{Rollover}
use Rattle.tftp_packet.specs.declared.rounds.rollover.Rollover.TheVariants.{Zero, One}

-- what comes after 65535
abbrev pub first_of : Rollover → ℕ
first_of Zero = 0
first_of One = 1

-- the number after a number, where `first` comes after 65535
abbrev pub after : (first n : ℕ) → ℕ
after first n = if n == 65535 then first else n + 1

-- the number of block k: each block has the number after that of the one before it, and the start is 0
abbrev pub number_of : (first k : ℕ) → ℕ
number_of first zero = 0
number_of first (suc k) = after first (number_of first k)

-- a round: after so many blocks a number comes again
abbrev pub round_of : (first : ℕ) → ℕ
round_of first = 65536 - first
