-- Blocks in the place of numbers. A number has two bytes (RFC 1350, section 5); where numbers begin again after 65535, it is read
-- as the block near the highest that has passed.
use Rattle.std.specs.Prelude.{ℕ, List, Option, Some, None, if◌then◌else◌}
use Rattle.tftp_packet.specs.Hosts.{Datagram}
use Rattle.law_rollover.specs.{carries_number, with_payload, with_place}

-- the payload with this block in the place of its number, where it has one
abbrev pub with_block : Option ℕ → List ℕ → List ℕ
with_block None payload = payload
with_block (Some block) payload = if carries_number payload then with_place (λ _. block) payload else payload

-- and a datagram with that payload
abbrev pub at_block : Option ℕ → Datagram → Datagram
at_block block d = with_payload d (with_block block d.payload)

-- the block that was read, or else the number
abbrev pub block_or : ℕ → Option ℕ → ℕ
block_or number None = number
block_or number (Some block) = block
