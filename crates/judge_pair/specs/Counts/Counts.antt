-- How often each packet of a transfer passed at an end, and how many copies the network lost and made between two ends
-- (RFC 1350, section 2). Lists have the newest datagram first.
use Rattle.std.specs.Prelude.{◌≡◌, ◌≢◌, ◌⊎◌, ◌≤◌, ◌+◌, ◌*◌, ◌^◌, ◌-◌, ◌==◌, ◌&&◌, ℕ, zero, suc, Bool, List, [], ◌∷◌, if◌then◌else◌, length, slice_index_or, Option, Some, None}
use Rattle.tftp_packet.specs.Hosts.{Datagram}
use Rattle.tftp_packet.specs.{Dir, In, Out}
use Rattle.law_model.specs.Rules.{comes_in, goes_out}
use Rattle.judge_pair.specs.declared.counts.packets.CountedPacket.{CountedPacket}
use Rattle.judge_pair.specs.declared.counts.packets.CountedPacket.TheVariants.{Opening, Error, Data, Ack}

-- Which packet a payload is a copy of, as a number: a DATA and an ACK each by its block, an ERROR, or a request or an OACK.
-- (Of the last three an end that breaks no rule sends one in a transfer.)
abbrev pub packet_of : List ℕ → ℕ
packet_of payload = by (slice_index_or payload 1 0) (slice_index_or payload 2 0 * 256 + slice_index_or payload 3 0) where
  by : ℕ → ℕ → ℕ
  by opcode block = if opcode == 3 then 4 * block + 1 else if opcode == 4 then 4 * block + 2 else if opcode == 5 then 3 else 0

-- the number of a packet that is named
abbrev pub number_of : CountedPacket → ℕ
number_of Opening = 0
number_of Error = 3
number_of (Data block) = 4 * block + 1
number_of (Ack block) = 4 * block + 2

-- above all of these numbers: no block is above 8421375 that is near one of 8388607 or less
abbrev pub packets : ℕ
packets = 33685504

-- how many of the datagrams that go so are copies of the packet
abbrev pub times : (Datagram → Bool) → ℕ → List Datagram → ℕ
times goes packet [] = 0
times goes packet (d ∷ passed) = (if goes d && packet_of d.payload == packet then 1 else 0) + times goes packet passed

abbrev pub sent : ℕ → List Datagram → ℕ
sent packet passed = times goes_out packet passed

abbrev pub taken : ℕ → List Datagram → ℕ
taken packet passed = times comes_in packet passed

-- by how much the one is above the other, where it is, at all numbers below this one together
abbrev pub surplus_below : ℕ → (ℕ → ℕ) → (ℕ → ℕ) → ℕ
surplus_below zero more less = 0
surplus_below (suc packet) more less = surplus_below packet more less + (more packet - less packet)

-- by how many copies more, of each packet with a lower number, the one list has sent than the other has taken
abbrev pub lost_below : ℕ → List Datagram → List Datagram → ℕ
lost_below above from to = surplus_below above (λ packet. sent packet from) (λ packet. taken packet to)

-- by how many copies more the other has taken than the one has sent
abbrev pub repeated_below : ℕ → List Datagram → List Datagram → ℕ
repeated_below above from to = surplus_below above (λ packet. taken packet to) (λ packet. sent packet from)

-- by so many copies, of all packets together, the one count is above the other
abbrev pub IsSurplus : (ℕ → ℕ) → (ℕ → ℕ) → ℕ → Type 0
IsSurplus more less count = (above : ℕ) → above ≡ packets → count ≡ surplus_below above more less

-- The answer is that number, or none where that is 2^64 or more.
abbrev pub Answers : (ℕ → Type 0) → Option ℕ → Type 0
Answers Is None = (count : ℕ) → Is count → 2 ^ 64 ≤ count
Answers Is (Some count) = Is count

-- At least so many copies of what the one end sent did not come to the other.
abbrev pub AreLost : List Datagram → List Datagram → ℕ → Type 0
AreLost from to = IsSurplus (λ packet. sent packet from) (λ packet. taken packet to)

-- At least so many copies of what the one end sent were made on the way to the other.
abbrev pub AreRepeated : List Datagram → List Datagram → ℕ → Type 0
AreRepeated from to = IsSurplus (λ packet. taken packet to) (λ packet. sent packet from)

-- So many copies both ways, by what is said of one way.
pub record AreBothWays (Are : List Datagram → List Datagram → ℕ → Type 0) (one other : List Datagram) (count : ℕ) : Type 0 where
  pub there : ℕ
  pub back : ℕ
  pub are_there : Are one other there
  pub are_back : Are other one back
  pub sum : count ≡ there + back

-- Of what either end sent at least so many copies did not come to the other.
abbrev pub AreLostBetween : List Datagram → List Datagram → ℕ → Type 0
AreLostBetween = AreBothWays AreLost

-- Of what either end sent at least so many copies were made on the way.
abbrev pub AreRepeatedBetween : List Datagram → List Datagram → ℕ → Type 0
AreRepeatedBetween = AreBothWays AreRepeated

-- More copies were lost, or made, than fit 64 bits.
abbrev pub AreTooMany : List Datagram → List Datagram → Type 0
AreTooMany one other = (lost repeated : ℕ) → AreLostBetween one other lost → AreRepeatedBetween one other repeated → (2 ^ 64 ≤ lost) ⊎ (2 ^ 64 ≤ repeated)

-- What is counted at an end, by the packets' numbers: how often each went out, and how often it came in.
abbrev pub Counted : Type 0
Counted = List ℕ × List ℕ

abbrev pub IsCountOf : Counted → List Datagram → Type 0
IsCountOf c passed = (packet : ℕ) → (slice_index_or c.0 packet 0 ≡ sent packet passed) × (slice_index_or c.1 packet 0 ≡ taken packet passed)

-- the same where it is still counted: only what has passed takes memory
abbrev pub AreCounted : Option Counted → List Datagram → Type 0
AreCounted None passed = passed ≢ []
AreCounted (Some c) passed = IsCountOf c passed

-- what is counted of the datagrams that go so
abbrev pub counts_of : Dir → Counted → List ℕ
counts_of Out c = c.0
counts_of In c = c.1

-- The packet has no place yet, so that memory is taken for it; or it has passed 2^64 - 1 times.
abbrev pub TakesRoom : List ℕ → ℕ → Type 0
TakesRoom counts packet = (length counts ≤ packet) ⊎ (2 ^ 64 ≤ slice_index_or counts packet 0 + 1)
