-- Which block `show` names beside a number. Where numbers begin again after 65535, a number is of the block near the highest
-- one that has passed, and that block is named where it is another than the number. The lists have the newest datagram first.
use Rattle.std.specs.Prelude.{◌≡◌, ℕ, ◌++◌, ◌==◌, ◌&&◌, not, List, [], ◌∷◌, Option, Some, None, codes, decimal, if◌then◌else◌}
use Rattle.std.specs.List.{list_any}
use Rattle.tftp_packet.specs.{Message, Data, Ack, Rollover}
use Rattle.tftp_packet.specs.Rounds.{position_of}
use Rattle.tftp_packet.specs.Hosts.{Datagram, Header}
use Rattle.law_model.specs.Rules.{IsHigh, asks, transfer_of}
use Rattle.law_rollover.specs.{AreUnrolled}
use Rattle.tftp_judge.specs.{header_by}

-- The datagrams from the first request on, or all where none has passed: the first request leaves out what came before it.
abbrev pub since_request : Header → List Datagram → List Datagram
since_request h [] = []
since_request h (d ∷ earlier) = if asks h d && not (list_any (asks h) earlier) then d ∷ [] else d ∷ since_request h earlier

-- the highest block of the transfer that has passed since, each by its number and those before it; or 0
abbrev pub IsHighBy : Rollover → Header → List Datagram → ℕ → Type 0
IsHighBy r h earlier high = (unrolled : List Datagram) × AreUnrolled r h (since_request h earlier) unrolled × IsHigh (transfer_of h unrolled) high

-- by what numbers are read, or 0 where they do not begin again
abbrev pub IsHighFor : Option Rollover → Header → List Datagram → ℕ → Type 0
IsHighFor None h earlier high = high ≡ 0
IsHighFor (Some r) h earlier high = IsHighBy r (header_by (Some r) h) earlier high

-- the block that a number is of, where it is another than the number
abbrev pub other_block : Option Rollover → (high number : ℕ) → Option ℕ
other_block None high number = None
other_block (Some r) high number = if position_of r high number == number then None else Some (position_of r high number)

abbrev pub block_text : Option ℕ → List ℕ
block_text None = []
block_text (Some block) = codes " block " ++ decimal block

-- what stands beside a packet with a block's number
abbrev pub beside : Option Rollover → (high : ℕ) → Message → List ℕ
beside rollover high (Data number bytes) = block_text (other_block rollover high number)
beside rollover high (Ack number) = block_text (other_block rollover high number)
beside rollover high _ = []
