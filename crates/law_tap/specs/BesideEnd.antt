-- What was recorded at an end, as it passes beside that end, between the two. Which host the end has is told from outside. Lists have the
-- newest first.
use Rattle.std.specs.Prelude.{◌≡◌, ℕ, false, List, Contains, Some}
use Rattle.tftp_packet.specs.{End, Client, Server, Dir, In, Out}
use Rattle.tftp_packet.specs.Hosts.{Datagram, Header, PeerId, peer_of}
use Rattle.law_model.specs.Rules.{asks, begins_request, first_of, transfer_of}
use Rattle.law_tap.specs.TapCapture.{TapDatagram, TapSides}

-- the side of the datagram at this host
abbrev pub own_side : List ℕ → Datagram → PeerId
own_side own d = record { host = own; port = d.local }

-- what goes out comes from there, and what comes in goes there
abbrev pub beside : List ℕ → Datagram → TapDatagram
beside own d = by d.dir where
  by : Dir → TapDatagram
  by Out = record { source = own_side own d; destination = peer_of d; payload = d.payload }
  by In = record { source = peer_of d; destination = own_side own d; payload = d.payload }

-- the side of this end, at the named one
abbrev pub side_at : End → List ℕ → Datagram → End → PeerId
side_at Client own d Client = own_side own d
side_at Client own d Server = peer_of d
side_at Server own d Client = peer_of d
side_at Server own d Server = own_side own d

-- These are the sides of the transfer: its first request goes from the client to where it asks, and something that is no request goes to
-- the server or comes from it (RFC 1350, section 4).
pub record AreSidesOf (h : Header) (own : List ℕ) (seen : List Datagram) (s : TapSides) : Type 0 where
  pub rollover : s.rollover ≡ h.rollover
  pub request : Datagram
  pub first : first_of (asks h) seen ≡ Some request
  pub client : side_at h.named own request Client ≡ s.client
  pub asked : side_at h.named own request Server ≡ s.asked
  pub other : Datagram
  pub goes : Contains (transfer_of h seen) other
  pub plain : begins_request other ≡ false
  pub server : side_at h.named own other Server ≡ s.server
