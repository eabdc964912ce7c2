-- In the first round nothing is numbered otherwise.
use Rattle.std.proofs.Common.{◌≡◌, ◌≤◌, List, [], ◌∷◌, map as each, Some, None, refl, ap, ap₂, arith}
use Rattle.std.specs.List.{AllByRecursion}
use Rattle.tftp_packet.specs.{Message, Rollover, canonical}
use Rattle.tftp_packet.specs.Rounds.{first_of}
use Rattle.tftp_packet.proofs.RoundsLemmas.Turns.{low_numbers}
use Rattle.law_model.specs.Model.{Meaning, MachinePacket, Req, Oack, Data, Ack, Error, blksize_of, block}
use Rattle.law_end.specs.{CanBeWritten, wire_of}
use Rattle.law_rollover.specs.{with_payload}
use Rattle.tftp_normal.specs.{normal_datagram, normal_datagram_by, normal_datagrams, normal_datagrams_by, normal_packets}
use Rattle.tftp_normal.proofs.Lawful.{InWire, packets_in}

module _ (r : Rollover) (m : Meaning) (can : CanBeWritten None m) where
  same_datagram : (p : MachinePacket) → InWire None m can p → normal_datagram_by (Some r) m p ≡ normal_datagram m p
  same_datagram Req there = refl
  same_datagram Oack there = refl
  same_datagram (Data k) low =
      let few : k ≤ 65535 = (let most = can.fits.numbered in omega (arith, low, most)) in
      ap (λ n. with_payload (normal_datagram m (Data k)) (canonical (Message.Data n (block (blksize_of m) (wire_of m) k)))) (low_numbers (first_of r) k few)
  same_datagram (Ack j) low =
      let few : j ≤ 65535 = (let most = can.fits.numbered in omega (arith, low, most)) in
      ap (λ n. with_payload (normal_datagram m (Ack j)) (canonical (Message.Ack n))) (low_numbers (first_of r) j few)
  same_datagram (Error code text) there = absurd there

  same_datagrams : (packets : List MachinePacket) → AllByRecursion (InWire None m can) packets → each (normal_datagram_by (Some r) m) packets ≡ each (normal_datagram m) packets
  same_datagrams [] all = refl
  same_datagrams (p ∷ packets) all = ap₂ (λ d ds. d ∷ ds) (same_datagram p all.0) (same_datagrams packets all.1)

pub as_it_is : (r : Rollover) (m : Meaning) → CanBeWritten None m → normal_datagrams_by (Some r) m ≡ normal_datagrams m
as_it_is r m can = same_datagrams r m can (normal_packets m) (packets_in None m can)
