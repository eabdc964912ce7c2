-- The one capture that is written for a meaning: taken at the client, nothing lost, repeated or out of order, and an
-- ACK only where the next window, or the end, needs one (RFC 1350, sections 2, 4 and 6; RFC 2347; RFC 7440, section 4).
use Rattle.std.specs.Prelude.{ℕ, zero, suc, ◌+◌, ◌-◌, ◌/◌, min, List, [], ◌∷◌, ◌++◌, map as each, Option, Some, None}
use Rattle.std.specs.FinMap as map
use Rattle.tftp_packet.specs.Hosts.{no_host, Datagram, Header}
use Rattle.tftp_packet.specs.{Message, Rollover, Side, Get, Put, End, Client, Server, canonical}
use Rattle.tftp_packet.specs.Rounds.{first_of, number_of}
use Rattle.tftp_capture.specs.{text_of}
use Rattle.law_model.specs.Model.{Meaning, windowsize_of, MachinePacket, Req, Oack, Data, Ack, Deed, Sent, Took, message_of}
use Rattle.law_model.specs.Model.Machines.{sender_of, receiver_of}
use Rattle.law_end.specs.{dir_of, wire_of, blocks_of}
use Rattle.law_rollover.specs.{by_number}

-- how many windows of w blocks hold n blocks
abbrev pub window_count : (w n : ℕ) → ℕ
window_count w n = (n + w - 1) / w

abbrev pub windows_of : Meaning → ℕ
windows_of m = window_count (windowsize_of m) (blocks_of m)

-- ---- the packets, in order

-- what passes before the first block, by how many options are agreed: the request, and what answers it
abbrev pub opening_on : Side → (agreed : ℕ) → List MachinePacket
opening_on Get zero = Req ∷ []
opening_on Get (suc more) = Req ∷ Oack ∷ Ack 0 ∷ []
opening_on Put zero = Req ∷ Ack 0 ∷ []
opening_on Put (suc more) = Req ∷ Oack ∷ []

abbrev pub opening : Meaning → List MachinePacket
opening m = opening_on m.side (map.len m.agreed)

-- so many blocks, in order, after block k
abbrev pub blocks_after : (k count : ℕ) → List MachinePacket
blocks_after k zero = []
blocks_after k (suc more) = Data (k + 1) ∷ blocks_after (k + 1) more

-- So many windows of w blocks after block k, the last one perhaps shorter since there are n blocks: the blocks of each,
-- then the ACK of its last one.
abbrev pub windows_after : (w n k count : ℕ) → List MachinePacket
windows_after w n k zero = []
windows_after w n k (suc more) = blocks_after k (min (k + w) n - k) ++ Ack (min (k + w) n) ∷ windows_after w n (min (k + w) n) more

abbrev pub normal_packets : Meaning → List MachinePacket
normal_packets m = opening m ++ windows_after (windowsize_of m) (blocks_of m) 0 (windows_of m)

-- ---- as datagrams at the client

-- which end sends a packet; none of them is an ERROR
abbrev pub author : Side → MachinePacket → End
author side Oack = Server
author side (Data k) = sender_of side
author side (Ack j) = receiver_of side
author side _ = Client

-- what the client does with it
abbrev pub deed_of_client : End → MachinePacket → Deed
deed_of_client Client p = Sent p
deed_of_client Server p = Took p

abbrev pub client_deed : Side → MachinePacket → Deed
client_deed side p = deed_of_client (author side p) p

-- the request goes to the service port, all else passes between the two ends' own ports
abbrev pub normal_remote : MachinePacket → ℕ
normal_remote Req = 69
normal_remote _ = 50001

-- the number that a datagram has for a block: the block itself, or where numbers begin again the block's number
abbrev pub number_by : Option Rollover → ℕ → ℕ
number_by None k = k
number_by (Some r) k = number_of (first_of r) k

-- the message as a datagram has it, so numbered
abbrev pub message_by : Option Rollover → Message → Message
message_by None message = message
message_by (Some r) message = by_number r message

abbrev pub normal_datagram_by : Option Rollover → Meaning → MachinePacket → Datagram
normal_datagram_by rollover m p = record {
  dir = dir_of (client_deed m.side p);
  local = 50000;
  host = no_host;
  remote = normal_remote p;
  payload = canonical (message_by rollover (message_of m (wire_of m) p));
}

-- a text does not say what comes after block 65535
abbrev pub normal_header : Header
normal_header = record { named = Client; service = 69; rollover = None }

abbrev pub normal_datagrams_by : Option Rollover → Meaning → List Datagram
normal_datagrams_by rollover m = each (normal_datagram_by rollover m) (normal_packets m)

-- the canonical text of it
abbrev pub normal_text_by : Option Rollover → Meaning → List ℕ
normal_text_by rollover m = text_of normal_header (normal_datagrams_by rollover m)

-- the same where blocks go up to 65535
abbrev pub normal_datagram : Meaning → MachinePacket → Datagram
normal_datagram = normal_datagram_by None

abbrev pub normal_datagrams : Meaning → List Datagram
normal_datagrams = normal_datagrams_by None

abbrev pub normal_text : Meaning → List ℕ
normal_text = normal_text_by None

-- ---- how many they are

abbrev pub opening_count : Side → (agreed : ℕ) → ℕ
opening_count Get zero = 1
opening_count Get (suc more) = 3
opening_count Put agreed = 2

abbrev pub normal_count : Meaning → ℕ
normal_count m = opening_count m.side (map.len m.agreed) + blocks_of m + windows_of m
