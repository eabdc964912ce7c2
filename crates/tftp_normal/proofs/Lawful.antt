-- Each datagram of the normal capture can stand in a text, and they are few.
use Rattle.std.proofs.Common.{◌≡◌, ℕ, zero, suc, ◌+◌, ◌-◌, ◌*◌, ◌<◌, ◌≤◌, min, List, [], ◌∷◌, map as each, length, length-take, drop, refl, ap, ◌∙◌, arith, suc-mul, div-lt_iff_lt-mul, le-mul_of_pos_right, Option, subst, sym}
use Rattle.std.specs.List.{AllByRecursion}
use Rattle.std.specs.FinMap as finite
use Rattle.std.specs.FinMap.{len-empty}
use Rattle.std.specs.Ordering.{nat_cmp}
use Rattle.std.specs.Cmp.Lexicographic.{slice_cmp}
use Rattle.tftp_packet.specs.{Message, OptionValue, Rollover, Side, Get, Put, canonical}
use Rattle.tftp_packet.specs.Rounds.{greatest_of}
use Rattle.tftp_packet.proofs.RoundsLemmas.Greatest.{most_blocks}
use Rattle.tftp_capture.specs.{IsLawful}
use Rattle.tftp_packet.specs.Hosts.{IsHost, no_host}
use Rattle.law_model.specs.Model.{Meaning, SomethingAgreed, blksize_of, windowsize_of, MachinePacket, Req, Oack, Data, Ack, Error, message_of}
use Rattle.law_end.specs.{wire_of, blocks_of, CanBeWritten}
use Rattle.tftp_normal.specs.{windows_of, opening_on, opening, blocks_after, windows_after, message_by, normal_packets, normal_remote, normal_datagram_by, normal_datagrams_by, opening_count, normal_count}
use Rattle.hex.specs.Hex.{IsBytes}
use Rattle.law_end.proofs.Written.EachOf.{Bytes, all_both, all_each}
use Rattle.tftp_normal.proofs.Going.{block_bytes}
use Rattle.tftp_normal.proofs.ByNumber.{ack_by, ack_bytes, data_by, data_bytes, oack_bytes, oack_payload, request_bytes, request_payload}

pub at_each : (bytes : List ℕ) → Bytes bytes → IsBytes bytes
at_each [] all i = omega arith
at_each (b ∷ bytes) all zero = all.0
at_each (b ∷ bytes) all (suc i) = at_each bytes all.1 i

dash_is_host : IsHost no_host
dash_is_host = record { some = omega arith; few = omega arith; signs = ((omega arith, omega arith), tt) }

module _ (rollover : Option Rollover) (m : Meaning) (can : CanBeWritten rollover m) where
  abbrev n : ℕ
  n = blocks_of m

  abbrev w : ℕ
  w = windowsize_of m

  -- the packet is one of this transfer's
  abbrev pub InWire : MachinePacket → Type 0
  InWire Req = Unit {0}
  InWire Oack = SomethingAgreed m
  InWire (Data k) = k ≤ n
  InWire (Ack j) = j ≤ n
  InWire (Error code text) = ⊥

  remote_port : (p : MachinePacket) → (1 ≤ normal_remote p) × (normal_remote p ≤ 65535)
  remote_port Req = (omega arith, omega arith)
  remote_port Oack = (omega arith, omega arith)
  remote_port (Data k) = (omega arith, omega arith)
  remote_port (Ack j) = (omega arith, omega arith)
  remote_port (Error code text) = (omega arith, omega arith)

  -- what a packet says, as a datagram has it
  abbrev said : MachinePacket → Message
  said p = message_by rollover (message_of m (wire_of m) p)

  numbered : (k : ℕ) → k ≤ n → k ≤ greatest_of rollover
  numbered k low = let most = can.fits.numbered in omega (arith, low, most)

  payload_bytes : (p : MachinePacket) → InWire p → Bytes (canonical (said p))
  payload_bytes Req there = request_bytes rollover m can.request
  payload_bytes Oack some = oack_bytes rollover m (can.oack some)
  payload_bytes (Data k) low = data_bytes rollover k _ (numbered k low) (block_bytes rollover m can k)
  payload_bytes (Ack j) low = ack_bytes rollover j (numbered j low)
  payload_bytes (Error code text) there = absurd there

  pub data_length : (k : ℕ) → length (canonical (said (Data k))) ≤ 65468
  data_length k =
      let most = can.block_size in
      let size = length-take (blksize_of m) (drop ((k - 1) * blksize_of m) (wire_of m)) in
      subst (λ message. length (canonical message) ≤ 65468) (sym (data_by rollover k _)) (omega (arith, most, size))

  pub ack_length : (j : ℕ) → length (canonical (said (Ack j))) ≤ 4
  ack_length j = subst (λ message. length (canonical message) ≤ 4) (sym (ack_by rollover j)) (omega arith)

  payload_length : (p : MachinePacket) → InWire p → length (canonical (said p)) ≤ 65527
  payload_length Req there = (request_payload rollover m can.request).1
  payload_length Oack some = (oack_payload rollover m (can.oack some)).1
  payload_length (Data k) low = let few = data_length k in omega (arith, few)
  payload_length (Ack j) low = let few = ack_length j in omega (arith, few)
  payload_length (Error code text) there = absurd there

  opening_in : (side : Side) (agreed : ℕ) → finite.len m.agreed ≡ agreed → AllByRecursion InWire (opening_on side agreed)
  opening_in Get zero is = (tt, tt)
  opening_in Put zero is = (tt, (omega arith, tt))
  opening_in Get (suc more) is = (tt, (some more is, (omega arith, tt))) where
    some : (more : ℕ) → finite.len m.agreed ≡ suc more → SomethingAgreed m
    some more is none = let e : finite.len m.agreed ≡ 0 = ap finite.len none ∙ len-empty (slice_cmp nat_cmp) OptionValue in absurd (omega (arith, is, e))
  opening_in Put (suc more) is = (tt, (some more is, tt)) where
    some : (more : ℕ) → finite.len m.agreed ≡ suc more → SomethingAgreed m
    some more is none = let e : finite.len m.agreed ≡ 0 = ap finite.len none ∙ len-empty (slice_cmp nat_cmp) OptionValue in absurd (omega (arith, is, e))

  blocks_in : (k more : ℕ) → k + more ≤ n → AllByRecursion InWire (blocks_after k more)
  blocks_in k zero low = tt
  blocks_in k (suc more) low = (omega (arith, low), blocks_in (k + 1) more (omega (arith, low)))

  windows_in : (k count : ℕ) → k ≤ n → AllByRecursion InWire (windows_after w n k count)
  windows_in k zero low = tt
  windows_in k (suc more) low =
      let last : ℕ = min (k + w) n in
      all_both InWire (blocks_after k (last - k)) (Ack last ∷ windows_after w n last more) (blocks_in k (last - k) (omega (arith, low))) (omega arith, windows_in last more (omega arith))

  -- packets of this transfer are lawful as datagrams
  lawful_all : (packets : List MachinePacket) → AllByRecursion InWire packets → AllByRecursion IsLawful (each (normal_datagram_by rollover m) packets)
  lawful_all packets all = all_each InWire IsLawful (normal_datagram_by rollover m)
      (λ p there. record {
        local = (omega arith, omega arith);
        remote = remote_port p;
        host = dash_is_host;
        bytes = at_each (canonical (said p)) (payload_bytes p there);
        fits = payload_length p there;
      })
      packets all

  pub lawful_opening : AllByRecursion IsLawful (each (normal_datagram_by rollover m) (opening m))
  lawful_opening = lawful_all (opening m) (opening_in m.side (finite.len m.agreed) refl)

  pub packets_in : AllByRecursion InWire (normal_packets m)
  packets_in = all_both InWire (opening m) (windows_after w n 0 (windows_of m)) (opening_in m.side (finite.len m.agreed) refl) (windows_in 0 (windows_of m) (omega arith))

  pub lawful : AllByRecursion IsLawful (normal_datagrams_by rollover m)
  lawful = lawful_all (normal_packets m) packets_in

  pub few_windows : windows_of m ≤ n
  few_windows =
      let some = can.window_size in
      let more : suc n * w ≡ n * w + w = suc-mul n w in
      let large : n ≤ n * w = le-mul_of_pos_right n some in
      let up : windows_of m < suc n = (div-lt_iff_lt-mul some).1 (omega (arith, more, large, some)) in
      omega (arith, up)

  pub few_first : (side : Side) (agreed : ℕ) → opening_count side agreed ≤ 3
  few_first Get zero = omega arith
  few_first Get (suc more) = omega arith
  few_first Put agreed = omega arith

  -- the blocks are at most 2^23 - 1
  pub few_blocks : n ≤ 8388607
  few_blocks = let most = most_blocks rollover in let numbered = can.fits.numbered in omega (arith, most, numbered)

  pub few : normal_count m ≤ 16777217
  few = let first = few_first m.side (finite.len m.agreed) in let most = few_blocks in let windows = few_windows in omega (arith, first, most, windows)
