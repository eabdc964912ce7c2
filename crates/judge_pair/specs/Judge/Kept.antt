-- What the judge of a pair keeps, and for which datagrams of the two captures that stands. Lists have the newest first.
use Rattle.std.specs.Prelude.{◌≡◌, ◌≤◌, ◌^◌, ℕ, true, List, All, length, Option, Some, None, IfNone, is_some}
use Rattle.tftp_packet.specs.{End, Client, Server}
use Rattle.tftp_packet.specs.Hosts.{Datagram, Header}
use Rattle.law_model.specs.Rules.{IsHigh, transfer_of}
use Rattle.law_end.specs.{OneEnded}
use Rattle.tftp_judge.specs.{IsJudgeAfter, IsKept, Judge, AreFlags}
use Rattle.judge_pair.specs.Counts.{AreCounted, Counted, TakesRoom, counts_of, packet_of}
use Rattle.judge_pair.specs.Judge.Flags.{Acks, flags_in}
use Rattle.judge_pair.specs.Judge.Merging.{AreMergedBut}

-- what is kept of one end
pub record Side : Type 0 where
  pub judge : Judge
  pub acks : Acks  -- the flags of the ACKs that it has sent
  pub highest : ℕ  -- the highest block that it has sent or taken, or 0
  pub held : Option Datagram  -- the last one that was read, where it came in and waits, with the block that it was read as
  pub counts : Option Counted  -- how often each packet passed, while there is memory for it

pub record Pair : Type 0 where
  pub client : Side
  pub server : Side

-- The side stands for these datagrams, which its judge has accepted; it may have refused the one behind them.
pub record IsSideAfter (s : Side) (h : Header) (read : List Datagram) : Type 0 where
  pub goes_on : s.judge.refused ≡ None → IsJudgeAfter s.judge h read
  pub lawful : OneEnded h read
  pub short : All (λ (d : Datagram). length d.payload ≤ 65527) read
  pub kept : IsKept h read s.judge.state.transfer
  pub fed : s.judge.fed ≡ length read
  pub few : length read ≤ 2 ^ 40
  pub acks : AreFlags (flags_in s.acks) (transfer_of h read)
  pub high : IsHigh (transfer_of h read) s.highest
  pub counted : AreCounted s.counts (transfer_of h read)

-- Two sides stand for what was read at each, and all of it is merged but what waits.
pub record AreSidesAfter (own other : Side) (h : Header) (read : List Datagram) (other_h : Header) (other_read : List Datagram) : Type 0 where
  pub own_side : IsSideAfter own h read
  pub other_side : IsSideAfter other other_h other_read
  pub merged : AreMergedBut own.held other.held h read other_h other_read

abbrev pub IsPairAfter : Pair → Header → List Datagram → Header → List Datagram → Type 0
IsPairAfter p client_header client server_header server = AreSidesAfter p.client p.server client_header client server_header server

-- all but what waits
abbrev pub HasSame : Side → Side → Type 0
HasSame old new = (new.judge ≡ old.judge) × (new.acks ≡ old.acks) × (new.counts ≡ old.counts) × (new.highest ≡ old.highest)

-- It has a flag for each block, so that it can be fed where numbers begin again.
abbrev pub IsNumbered : Side → Type 0
IsNumbered s = is_some s.acks.blocks ≡ true

-- Where packets were counted and are not any more, the datagram's packet took room.
abbrev pub CountsOn : Option Counted → Option Counted → Datagram → Type 0
CountsOn old new d = (c : Counted) → old ≡ Some c → IfNone new (TakesRoom (counts_of d.dir c) (packet_of d.payload))

-- the side of an end
abbrev pub side_at : End → Pair → Side
side_at Client p = p.client
side_at Server p = p.server
