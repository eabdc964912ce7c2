-- Packets, deeds and lists of them are read back from their numbers.
use Rattle.std.proofs.Common.{◌≡◌, ℕ, [], ◌∷◌, refl, sym, ap, ◌∙◌}
use Rattle.law_model.specs.Model.{MachinePacket, Req, Oack, Data, Ack, Error, Deed, Sent, Took, History}
use Rattle.law_end.specs.{packet_of}
use Rattle.tftp_packet.specs.{Rollover}
use Rattle.tftp_packet.specs.Rounds.{first_of, position_of}
use Rattle.tftp_packet.proofs.RoundsLemmas.Turns.{low_numbers}
use Rattle.tftp_packet.proofs.RoundsLemmas.Positions.{has_number, is_near, low_is_near, read_back}
use Rattle.law_rollover.specs.{IsNearPacket, IsLowPacket, IsTimelyPacket, AreNear, AreLow, IsTimely, deed_with, with_number, with_position, numbers_of, positions_of, high_of}

-- ---- one packet

pub packet_back : (r : Rollover) (high : ℕ) (p : MachinePacket) → IsNearPacket r high p → with_position r high (with_number r p) ≡ p
packet_back r high Req near = refl
packet_back r high Oack near = refl
packet_back r high (Data k) near = ap Data (read_back r high k near)
packet_back r high (Ack j) near = ap Ack (read_back r high j near)
packet_back r high (Error code text) near = refl

pub packet_near : (r : Rollover) (high : ℕ) (p : MachinePacket) → IsLowPacket p → IsNearPacket r high (with_position r high p)
packet_near r high Req small = tt
packet_near r high Oack small = tt
packet_near r high (Data n) small = is_near r high n small
packet_near r high (Ack n) small = is_near r high n small
packet_near r high (Error code text) small = tt

pub packet_numbered : (r : Rollover) (high : ℕ) (p : MachinePacket) → IsLowPacket p → with_number r (with_position r high p) ≡ p
packet_numbered r high Req small = refl
packet_numbered r high Oack small = refl
packet_numbered r high (Data n) small = ap Data (has_number r high n small)
packet_numbered r high (Ack n) small = ap Ack (has_number r high n small)
packet_numbered r high (Error code text) small = refl

pub packet_low : (r : Rollover) (high : ℕ) (p : MachinePacket) → IsLowPacket p → IsTimelyPacket high p → with_position r high p ≡ p
packet_low r high Req low timely = refl
packet_low r high Oack low timely = refl
packet_low r high (Data k) low timely =
    ap Data (ap (position_of r high) (sym (low_numbers (first_of r) k low)) ∙ read_back r high k (low_is_near r high k low timely))
packet_low r high (Ack k) low timely =
    ap Ack (ap (position_of r high) (sym (low_numbers (first_of r) k low)) ∙ read_back r high k (low_is_near r high k low timely))
packet_low r high (Error code text) low timely = refl

-- ---- one deed

deed_back : (f g : MachinePacket → MachinePacket) (d : Deed) → f (g (packet_of d)) ≡ packet_of d → deed_with f (deed_with g d) ≡ d
deed_back f g (Sent p) same = ap Sent same
deed_back f g (Took p) same = ap Took same

deed_same : (f : MachinePacket → MachinePacket) (d : Deed) → f (packet_of d) ≡ packet_of d → deed_with f d ≡ d
deed_same f (Sent p) same = ap Sent same
deed_same f (Took p) same = ap Took same

packet_of_deed : (f : MachinePacket → MachinePacket) (d : Deed) → packet_of (deed_with f d) ≡ f (packet_of d)
packet_of_deed f (Sent p) = refl
packet_of_deed f (Took p) = refl

-- ---- lists

pub read_all_back : (r : Rollover) (h : History) → AreNear r h → positions_of r (numbers_of r h) ≡ h
read_all_back r [] near = refl
read_all_back r (d ∷ h) near =
    let before = read_all_back r h near.1 in
    rw before (ap (λ x. x ∷ h) (deed_back (with_position r (high_of h)) (with_number r) d (packet_back r (high_of h) (packet_of d) near.0)))

pub all_near : (r : Rollover) (numbers : History) → AreLow numbers → AreNear r (positions_of r numbers)
all_near r [] small = tt
all_near r (d ∷ numbers) small =
    let high = high_of (positions_of r numbers) in
    let near : IsNearPacket r high (packet_of (deed_with (with_position r high) d)) = rw (packet_of_deed (with_position r high) d) (packet_near r high (packet_of d) small.0) in
    (near, all_near r numbers small.1)

pub all_numbered : (r : Rollover) (numbers : History) → AreLow numbers → numbers_of r (positions_of r numbers) ≡ numbers
all_numbered r [] small = refl
all_numbered r (d ∷ numbers) small =
    let high = high_of (positions_of r numbers) in
    let before = all_numbered r numbers small.1 in
    rw before (ap (λ x. x ∷ numbers) (deed_back (with_number r) (with_position r high) d (packet_numbered r high (packet_of d) small.0)))

pub all_low : (r : Rollover) (h : History) → AreLow h → IsTimely h → positions_of r h ≡ h
all_low r [] low timely = refl
all_low r (d ∷ h) low timely =
    let before = all_low r h low.1 timely.1 in
    rw before (ap (λ x. x ∷ h) (deed_same (with_position r (high_of h)) d (packet_low r (high_of h) (packet_of d) low.0 timely.0)))
