-- What is left of two captures once neither goes further. Lists have the newest datagram first.
use Rattle.std.specs.Prelude.{◌≡◌, ℕ, List, [], ◌++◌, length, Option, None}
use Rattle.tftp_packet.specs.{End, Client, Server}
use Rattle.tftp_packet.specs.Hosts.{Datagram, Header}
use Rattle.judge_pair.specs.Judge.Merging.{AreMergedBut}
use Rattle.judge_pair.specs.Judge.Kept.{IsSideAfter, Side}

-- of one capture: its end, with the last datagram that was merged or waited, and how many are merged
pub record Left : Type 0 where
  pub side : Side
  pub merged : ℕ

pub record Rest : Type 0 where
  pub client : Left
  pub server : Left

abbrev pub left_at : End → Rest → Left
left_at Client r = r.client
left_at Server r = r.server

-- The end stands for these; and only where one waited are there more than those that were read till then.
pub record IsLeftAfter (l : Left) (held : Option Datagram) (part early : List Datagram) (h : Header) (read : List Datagram) : Type 0 where
  pub side : IsSideAfter l.side h read
  pub waits : l.side.held ≡ held
  pub merged : l.merged ≡ length part
  pub more : List Datagram
  pub is : read ≡ more ++ early
  pub ends : held ≡ None → more ≡ []

pub record IsRestAfter (r : Rest) (h : Header) (client : List Datagram) (k : Header) (server : List Datagram) : Type 0 where
  pub held : Option Datagram
  pub other_held : Option Datagram
  pub early : List Datagram
  pub other_early : List Datagram
  pub but : AreMergedBut held other_held h early k other_early
  pub client_left : IsLeftAfter r.client held but.part early h client
  pub server_left : IsLeftAfter r.server other_held but.other_part other_early k server
