-- What one end did, by the numbers that passed in the place of blocks, the newest first.
use Rattle.std.specs.Prelude.{◌≡◌, ℕ, ◌+◌, ◌≤◌, max, List, [], ◌∷◌, map}
use Rattle.tftp_packet.specs.{End}
use Rattle.law_model.specs.Model.{Meaning, MachinePacket, Data, Ack, Req, Oack, Error, Deed, Sent, Took, History, IsView}
use Rattle.law_end.specs.{packet_of}
use Rattle.tftp_packet.specs.{Rollover}
use Rattle.tftp_packet.specs.Rounds.{IsNear, first_of, half_round, number_of, position_of}

abbrev pub deed_with : (MachinePacket → MachinePacket) → Deed → Deed
deed_with f (Sent p) = Sent (f p)
deed_with f (Took p) = Took (f p)

-- ---- from blocks to numbers

-- the packet with the number of its block
abbrev pub with_number : Rollover → MachinePacket → MachinePacket
with_number r Req = Req
with_number r Oack = Oack
with_number r (Data k) = Data (number_of (first_of r) k)
with_number r (Ack j) = Ack (number_of (first_of r) j)
with_number r (Error code text) = Error code text

abbrev pub numbers_of : Rollover → History → History
numbers_of r h = map (deed_with (with_number r)) h

-- ---- how late blocks and ACKs may pass

-- the highest block that was sent or taken, or 0
abbrev pub higher_of : MachinePacket → ℕ → ℕ
higher_of Req high = high
higher_of Oack high = high
higher_of (Data k) high = max high k
higher_of (Ack j) high = high
higher_of (Error code text) high = high

abbrev pub high_of : History → ℕ
high_of [] = 0
high_of (d ∷ h) = higher_of (packet_of d) (high_of h)

abbrev pub IsNearPacket : Rollover → (high : ℕ) → MachinePacket → Type 0
IsNearPacket r high Req = Unit {0}
IsNearPacket r high Oack = Unit {0}
IsNearPacket r high (Data k) = IsNear (first_of r) high k
IsNearPacket r high (Ack j) = IsNear (first_of r) high j
IsNearPacket r high (Error code text) = Unit {0}

-- each block and each ACK is near when it passes
abbrev pub AreNear : Rollover → History → Type 0
AreNear r [] = Unit {0}
AreNear r (d ∷ h) = IsNearPacket r (high_of h) (packet_of d) × AreNear r h

-- none is more than half a round older than the highest block that has passed
abbrev pub IsTimelyPacket : (high : ℕ) → MachinePacket → Type 0
IsTimelyPacket high Req = Unit {0}
IsTimelyPacket high Oack = Unit {0}
IsTimelyPacket high (Data k) = high ≤ k + half_round
IsTimelyPacket high (Ack j) = high ≤ j + half_round
IsTimelyPacket high (Error code text) = Unit {0}

abbrev pub IsTimely : History → Type 0
IsTimely [] = Unit {0}
IsTimely (d ∷ h) = IsTimelyPacket (high_of h) (packet_of d) × IsTimely h

-- no block and no ACK is above 65535, so each is also a number of two bytes
abbrev pub IsLowPacket : MachinePacket → Type 0
IsLowPacket Req = Unit {0}
IsLowPacket Oack = Unit {0}
IsLowPacket (Data k) = k ≤ 65535
IsLowPacket (Ack j) = j ≤ 65535
IsLowPacket (Error code text) = Unit {0}

abbrev pub AreLow : History → Type 0
AreLow [] = Unit {0}
AreLow (d ∷ h) = IsLowPacket (packet_of d) × AreLow h

-- ---- and back

abbrev pub with_position : Rollover → (high : ℕ) → MachinePacket → MachinePacket
with_position r high Req = Req
with_position r high Oack = Oack
with_position r high (Data n) = Data (position_of r high n)
with_position r high (Ack n) = Ack (position_of r high n)
with_position r high (Error code text) = Error code text

-- the deeds, read from the oldest on
abbrev pub positions_of : Rollover → History → History
positions_of r [] = []
positions_of r (d ∷ numbers) = deed_with (with_position r (high_of (positions_of r numbers))) d ∷ positions_of r numbers

-- ---- runs

-- some run shows these numbers at an end, and no block and no ACK far from the highest block there
pub record ShowsNumbers (r : Rollover) (m : Meaning) (wire : List ℕ) (e : End) (numbers : History) : Type 0 where
  pub view : History
  pub run : IsView m wire e view
  pub near : AreNear r view
  pub numbered : numbers_of r view ≡ numbers
