-- The greatest block is one of two.
use Rattle.std.proofs.Common.{ℕ, ◌≤◌, Option, Some, None, arith}
use Rattle.tftp_packet.specs.Rounds.{greatest_of, Rollover}

-- no number of two bytes is above it
pub two_bytes_within : (rollover : Option Rollover) → 65535 ≤ greatest_of rollover
two_bytes_within None = omega arith
two_bytes_within (Some rollover) = omega arith

pub most_blocks : (rollover : Option Rollover) → greatest_of rollover ≤ 8388607
most_blocks None = omega arith
most_blocks (Some rollover) = omega arith
