-- A capture with blocks in the place of numbers. The lists have the newest datagram first.
use Rattle.std.specs.Prelude.{◌≡◌, ℕ, ◌+◌, ◌*◌, ◌/◌, ◌%◌, ◌==◌, ◌&&◌, ◌||◌, Bool, List, [], ◌∷◌, Option, Some, None, length, if◌then◌else◌}
use Rattle.tftp_packet.specs.{opcode_of}
use Rattle.tftp_packet.specs.Hosts.{Datagram, Header}
use Rattle.law_model.specs.Rules.{IsHigh, transfer_of}
use Rattle.tftp_packet.specs.{Rollover}
use Rattle.tftp_packet.specs.Rounds.{position_of}

-- a DATA, or an ACK of four bytes, has a block's number (RFC 1350, section 5)
abbrev pub carries_number : List ℕ → Bool
carries_number payload = (opcode_of payload == 3) || ((opcode_of payload == 4) && (length payload == 4))

-- the payload with this block in the place of its number, which are the third and the fourth byte
abbrev pub with_place : (ℕ → ℕ) → List ℕ → List ℕ
with_place block (a ∷ b ∷ x ∷ y ∷ rest) = a ∷ b ∷ block (256 * x + y) / 256 ∷ block (256 * x + y) % 256 ∷ rest
with_place block payload = payload

-- the payload with the block near this highest one
abbrev pub unrolled_payload : Rollover → (high : ℕ) → List ℕ → List ℕ
unrolled_payload r high payload = if carries_number payload then with_place (position_of r high) payload else payload

abbrev pub with_payload : Datagram → List ℕ → Datagram
with_payload d payload = record { dir = d.dir; local = d.local; host = d.host; remote = d.remote; payload = payload }

-- A datagram's number is the block near the highest that has passed of the transfer.
abbrev pub IsUnrolled : Rollover → (passed : List Datagram) → Datagram → Datagram → Type 0
IsUnrolled r passed d now = (high : ℕ) × IsHigh passed high × (now ≡ with_payload d (unrolled_payload r high d.payload))

-- so are all datagrams of a capture, from the oldest on
abbrev pub AreUnrolled : Rollover → Header → List Datagram → List Datagram → Type 0
AreUnrolled r h [] [] = Unit {0}
AreUnrolled r h (d ∷ earlier) (now ∷ unrolled) = IsUnrolled r (transfer_of h unrolled) d now × AreUnrolled r h earlier unrolled
AreUnrolled r h _ _ = ⊥

-- What a judge takes a payload for after these datagrams: that payload, or where numbers begin again the one with the block near.
abbrev pub IsTakenFor : Option Rollover → (passed : List Datagram) → List ℕ → List ℕ → Type 0
IsTakenFor None passed payload now = now ≡ payload
IsTakenFor (Some r) passed payload now = (high : ℕ) × IsHigh passed high × (now ≡ unrolled_payload r high payload)

-- and what it takes a datagram for
abbrev pub IsTaken : Option Rollover → (passed : List Datagram) → Datagram → Datagram → Type 0
IsTaken rollover passed d now = (now ≡ with_payload d now.payload) × IsTakenFor rollover passed d.payload now.payload
