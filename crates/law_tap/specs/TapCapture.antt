-- A capture between the two ends: each datagram has two sides, where it came from and where it went (RFC 1350, section 4).
use Rattle.std.specs.Prelude.{◌≢◌, ℕ, List, Option}
use Rattle.tftp_packet.specs.{End, Client, Server}
use Rattle.tftp_packet.specs.{Rollover}
pub use Rattle.tftp_packet.specs.Hosts.Capture.{PeerId}

pub record TapDatagram : Type 0 where
  pub source : PeerId
  pub destination : PeerId
  pub payload : List ℕ

-- The sides of one transfer: the client, where it asks for it, and the server, where it answers. Who the server is a tap
-- is told from outside: two processes may have answered a repeated request, and the client has gone on with one of them. So is
-- what comes after block 65535, where anything does.
pub record TapSides : Type 0 where
  pub client : PeerId
  pub asked : PeerId
  pub server : PeerId
  pub rollover : Option Rollover

abbrev pub side_of : TapSides → End → PeerId
side_of s Client = s.client
side_of s Server = s.server

-- the client is none of the other two
pub record AreApart (s : TapSides) : Type 0 where
  pub server : s.client ≢ s.server
  pub asked : s.client ≢ s.asked
