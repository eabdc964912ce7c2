-- What `Numbers` keeps of the datagrams that have passed: not the datagrams, but the transfer ids that they fixed (RFC 1350,
-- section 4), and the highest block.
use Rattle.std.specs.Prelude.{◌≡◌, ℕ, ◌==◌, ◌&&◌, Bool, true, List, Option, Some, None, is_some, option_map}
use Rattle.std.specs.List.{list_any}
use Rattle.tftp_packet.specs.{End, Client, Server, Rollover}
use Rattle.tftp_packet.specs.Hosts.{Datagram, Header, peer_of, same_peer}
use Rattle.law_model.specs.Rules.{IsHigh, asks, comes_in, first_of, goes_out, transfer_of}
use Rattle.law_rollover.specs.{AreUnrolled, unrolled_payload, with_payload}
use Rattle.tftp_judge.specs.{header_by}
use Rattle.tftp_commands.specs.declared.numbers.Numbers.{Numbers}
use Rattle.tftp_commands.specs.declared.numbers.Sides.{Sides}
use Rattle.tftp_commands.specs.Beside.{since_request}

abbrev pub sides_of : Datagram → Sides
sides_of d = record { local = d.local; peer = peer_of d }

-- the header, whatever comes after block 65535
abbrev pub header_in : Numbers → Header
header_in kept = record { named = kept.named; service = kept.service; rollover = None }

-- a datagram with the block near in the place of its number
abbrev pub read_as : Rollover → (high : ℕ) → Datagram → Datagram
read_as r high d = with_payload d (unrolled_payload r high d.payload)

-- After the first request, a datagram comes from the server's side: at the client each that comes in, at the server each that
-- goes out to the client.
abbrev pub answers : End → Sides → Datagram → Bool
answers Client first d = comes_in d
answers Server first d = goes_out d && same_peer (peer_of d) first.peer

abbrev pub first_answer : End → List Datagram → Option Sides → Option Datagram
first_answer named earlier None = None
first_answer named earlier (Some first) = first_of (answers named first) earlier

-- A datagram that is no request is of the transfer, by the sides of the first request and of the first answer.
abbrev pub is_between : End → Option Sides → Option Sides → Datagram → Bool
is_between named None answered d = true
is_between Client (Some first) None d = (d.local == first.local) && comes_in d
is_between Client (Some first) (Some answer) d = (d.local == first.local) && same_peer (peer_of d) answer.peer
is_between Server (Some first) None d = goes_out d && same_peer (peer_of d) first.peer
is_between Server (Some first) (Some answer) d = (d.local == answer.local) && same_peer (peer_of d) first.peer

-- what is kept from the first request on
abbrev pub begun_by : Numbers → Datagram → Numbers
begun_by kept d =
    record { rollover = kept.rollover; named = kept.named; service = kept.service; asked = Some (sides_of d); answered = kept.answered; highest = 0 }

-- what is kept is that of these datagrams, as they are read by their numbers
pub record IsKeptBy (r : Rollover) (kept : Numbers) (h : Header) (earlier : List Datagram) : Type 0 where
  pub unrolled : List Datagram
  pub are : AreUnrolled r h (since_request h earlier) unrolled
  pub named : kept.named ≡ h.named
  pub service : kept.service ≡ h.service
  pub asked : kept.asked ≡ option_map sides_of (first_of (asks h) unrolled)
  pub answered : kept.answered ≡ option_map sides_of (first_answer h.named unrolled kept.asked)
  pub begun : is_some kept.asked ≡ list_any (asks h) earlier
  pub high : IsHigh (transfer_of h unrolled) kept.highest

-- where numbers do not begin again, nothing is
abbrev pub IsKept : Option Rollover → Numbers → Header → List Datagram → Type 0
IsKept None kept h earlier = kept.highest ≡ 0
IsKept (Some r) kept h earlier = IsKeptBy r kept (header_by (Some r) h) earlier
