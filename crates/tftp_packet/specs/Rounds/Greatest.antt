-- The greatest block of a transfer. RFC 1350, section 5, gives a block's number two bytes. Where numbers begin again a
-- transfer has at most 2^23 - 1 blocks.
use Rattle.std.specs.Prelude.{ℕ, Option, Some, None}
use Rattle.tftp_packet.specs.declared.rounds.rollover.Rollover.{Rollover}

abbrev pub greatest_of : Option Rollover → ℕ
greatest_of None = 65535
greatest_of (Some rollover) = 8388607
