-- What passed of a transfer at its client, as a tap between the two ends captures it, by a recording of unknown place. Lists
-- have the newest first.
use Rattle.std.specs.Prelude.{◌||◌, not, Bool, List, map, Option, Some, None}
use Rattle.tftp_packet.specs.{Rollover}
use Rattle.tftp_packet.specs.Hosts.{same_peer}
use Rattle.audit_views.specs.Parties.{host_name}
use Rattle.law_tap.specs.{PeerId, TapDatagram, TapSides}
use Rattle.audit_flows.specs.Lines.{Recorded, same_endpoint, Placed}
use Rattle.audit_flows.specs.{Endpoint, Transfer}
use Rattle.audit_flows.specs.Transfers.{client_view, server_of}

-- a host by its name, and a port there
abbrev pub peer_of : Endpoint → PeerId
peer_of e = record { host = host_name e.address; port = e.port }

abbrev pub passed_of : Recorded → TapDatagram
passed_of d = record { source = peer_of d.source; destination = peer_of d.target; payload = d.payload }

-- the transfer's datagrams at its client; what passed beside its server is left out
abbrev pub between_capture : Transfer → List Placed → List TapDatagram
between_capture x placed = map (λ p. passed_of p.datagram) (client_view x.number placed)

-- ---- the sides that the tap is told

-- where no server is known, whom the client asked
abbrev pub server_or_asked : Transfer → Option Endpoint → Endpoint
server_or_asked x None = x.asked
server_or_asked x (Some s) = s

abbrev pub sides_with : Transfer → Option Endpoint → TapSides
sides_with x server = record { client = peer_of x.client; asked = peer_of x.asked; server = peer_of (server_or_asked x server); rollover = None }

-- by the whole recording
abbrev pub sides_of : Transfer → List Placed → TapSides
sides_of x whole = sides_with x (server_of x.number whole)

-- the same sides where this comes after block 65535
abbrev pub sides_by : Option Rollover → TapSides → TapSides
sides_by rollover s = record { client = s.client; asked = s.asked; server = s.server; rollover = rollover }

-- the client asked itself, or is the server: nothing passes between them that a tap could judge
abbrev pub is_to_itself : Transfer → List Placed → Bool
is_to_itself x whole = same_endpoint x.client (server_or_asked x (server_of x.number whole)) || same_endpoint x.client x.asked

-- the same of sides, by the names of their hosts
abbrev pub are_apart : TapSides → Bool
are_apart s = not (same_peer s.client s.server || same_peer s.client s.asked)
