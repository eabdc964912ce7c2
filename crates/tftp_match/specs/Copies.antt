-- How often each packet was sent at one end and taken at the other (RFC 1350, section 2), and what is said of that.
use Rattle.std.specs.Prelude.{ℕ, ◌++◌, ◌||◌, nat_lt, Bool, true, false, List, [], ◌∷◌, codes, decimal, filter, flat_map, map, Option, Some, None, Result, Ok, Err}
use Rattle.std.specs.List.{range_with_len}
use Rattle.tftp_packet.specs.{End, Client, Server}
use Rattle.tftp_packet.specs.Hosts.{Datagram}
use Rattle.judge_pair.specs.{Apart}
use Rattle.judge_pair.specs.Counts.{AreCounted, sent, taken}
use Rattle.judge_pair.specs.Counts.Counts.{number_of}
use Rattle.judge_pair.specs.declared.counts.packets.CountedPacket.{CountedPacket}
use Rattle.judge_pair.specs.declared.counts.packets.CountedPacket.TheVariants.{Opening, Error, Data, Ack}
use Rattle.judge_pair.specs.declared.judge.matched.Matched.{Matched}
use Rattle.judge_pair.specs.declared.match_texts.said.PairSaid.{PairSaid}
use Rattle.tftp_match.specs.declared.copies.Copies.{Copies}
use Rattle.tftp_match.specs.declared.faults.MatchFault.{MatchFault}
use Rattle.tftp_match.specs.declared.faults.MatchFault.TheVariants.{Alloc, Uncounted}

-- ---- the packets, in the order in which they are told

-- of a block its DATA and its ACK
abbrev pub of_block : ℕ → List CountedPacket
of_block block = Data block ∷ Ack block ∷ []

-- a request or an OACK, an ERROR, and the packets of the first n blocks
abbrev pub packets_to : ℕ → List CountedPacket
packets_to n = Opening ∷ Error ∷ flat_map of_block (range_with_len 0 n)

-- more than each block that a number is read as: no block is above 8421375 that is near one of 8388607 or less
unfoldable pub blocks : ℕ
blocks = 8421376

-- ---- their copies

-- how often a packet was sent at its end, and taken at the other one
abbrev pub copies_of : End → List Datagram → List Datagram → CountedPacket → Copies
copies_of from sender receiver p = record { from = from; packet = p; sent = sent (number_of p) sender; taken = taken (number_of p) receiver }

abbrev pub has_passed : Copies → Bool
has_passed c = nat_lt 0 c.sent || nat_lt 0 c.taken

-- those of these packets of an end that passed
abbrev pub passed_copies : End → List Datagram → List Datagram → List CountedPacket → List Copies
passed_copies from sender receiver ps = filter has_passed (map (copies_of from sender receiver) ps)

-- those of the packets of the first n blocks, the client's first
abbrev pub copies_to : ℕ → List Datagram → List Datagram → List Copies
copies_to n client server = passed_copies Client client server (packets_to n) ++ passed_copies Server server client (packets_to n)

abbrev pub all_copies : List Datagram → List Datagram → List Copies
all_copies client server = copies_to blocks client server

-- ---- when they are told

-- these datagrams passed at the two ends, as far as they were counted
abbrev pub HavePassed : PairSaid → List Datagram → List Datagram → Type 0
HavePassed s client server = by s.together where
  by : Result Matched Apart → Type 0
  by (Ok m) = AreCounted m.client_counts client × AreCounted m.server_counts server
  by (Err why) = Unit {0}

-- where they are asked for, and it is told how far the captures go together
abbrev pub told_copies : Bool → PairSaid → List Datagram → List Datagram → Option (List Copies)
told_copies false s client server = None
told_copies true s client server = by s.together where
  by : Result Matched Apart → Option (List Copies)
  by (Ok m) = Some (all_copies client server)
  by (Err why) = None

-- why they are not told: memory ran out
abbrev pub IsCountFault : MatchFault → Type 0
IsCountFault (Alloc e) = Unit {0}
IsCountFault Uncounted = Unit {0}
IsCountFault _ = ⊥

-- ---- their words

abbrev pub sender_word : End → List ℕ
sender_word Client = codes "client"
sender_word Server = codes "server"

-- what the packet is
abbrev pub kind_word : End → CountedPacket → List ℕ
kind_word Client Opening = codes "request"
kind_word Server Opening = codes "OACK"
kind_word from Error = codes "ERROR"
kind_word from (Data block) = codes "DATA"
kind_word from (Ack block) = codes "ACK"

-- its block
abbrev pub block_of : CountedPacket → Option ℕ
block_of Opening = None
block_of Error = None
block_of (Data block) = Some block
block_of (Ack block) = Some block

abbrev pub block_text : Option ℕ → List ℕ
block_text None = []
block_text (Some block) = codes " " ++ decimal block

-- as in `server DATA 3 sent 2 taken 1`
abbrev pub copies_text : Copies → List ℕ
copies_text c = sender_word c.from ++ codes " " ++ kind_word c.from c.packet ++ block_text (block_of c.packet) ++ codes " sent " ++ decimal c.sent ++ codes " taken " ++ decimal c.taken

abbrev pub copies_line : Copies → List ℕ
copies_line c = copies_text c ++ codes "\n"

-- a line for each packet, where they are told
abbrev pub copies_lines : Option (List Copies) → List ℕ
copies_lines None = []
copies_lines (Some copies) = flat_map copies_line copies
