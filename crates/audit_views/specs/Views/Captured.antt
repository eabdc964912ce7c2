-- What is captured of a transfer at each end, by a recording. Lists have the newest first; `name` names each host.
use Rattle.std.specs.Prelude.{ℕ, List, filter, map, if◌then◌else◌, None}
use Rattle.tftp_packet.specs.Hosts.{Datagram, Header}
use Rattle.tftp_packet.specs.{Dir, In, Out}
use Rattle.tftp_packet.specs.{Client, Server}
use Rattle.audit_flows.specs.Lines.{Recorded, same_endpoint, Placed}
use Rattle.audit_flows.specs.{Address, Place, Talks, Beside, Transfer}
use Rattle.audit_flows.specs.Transfers.{client_view, is_at_server, is_end, server_of}
use Rattle.audit_views.specs.declared.views.party.Party.{Party}

abbrev pub Naming : Type 0
Naming = Address → List ℕ

-- a datagram that passed this way, as its capture has it
abbrev pub captured : Naming → Dir → Recorded → Datagram
captured name Out d = record { dir = Out; local = d.source.port; host = name d.target.address; remote = d.target.port; payload = d.payload }
captured name In d = record { dir = In; local = d.target.port; host = name d.source.address; remote = d.source.port; payload = d.payload }

-- the same of one as it is fed, with the names of its hosts
abbrev pub captured_as : Dir → Party → Party → List ℕ → Datagram
captured_as Out source target payload = record { dir = Out; local = source.end.port; host = target.host; remote = target.end.port; payload = payload }
captured_as In source target payload = record { dir = In; local = target.end.port; host = source.host; remote = source.end.port; payload = payload }

-- what the client sent goes out there
abbrev pub way_at_client : Transfer → Placed → Dir
way_at_client x p = if same_endpoint p.datagram.source x.client then Out else In

abbrev pub captured_at_client : Naming → Transfer → Placed → Datagram
captured_at_client name x p = captured name (way_at_client x p) p.datagram

-- the capture of the transfer at its client
abbrev pub client_capture : Naming → Transfer → List Placed → List Datagram
client_capture name x placed = map (captured_at_client name x) (client_view x.number placed)

abbrev pub client_header : Transfer → Header
client_header x = record { named = Client; service = x.asked.port; rollover = None }

-- Of a talk what the client sent comes in at the server, and of what passed beside what did not come from the server. A
-- request comes in. Who the server is, all datagrams tell.
abbrev pub way_at_server : Transfer → List Placed → Placed → Dir
way_at_server x whole p = by p.place where
  by : Place → Dir
  by (Talks y) = if same_endpoint p.datagram.source x.client then In else Out
  by (Beside y) = if is_end p.datagram.source (server_of x.number whole) then Out else In
  by _ = In

abbrev pub captured_at_server : Naming → Transfer → List Placed → Placed → Datagram
captured_at_server name x whole p = captured name (way_at_server x whole p) p.datagram

-- of a part of the whole, what the server saw
abbrev pub server_capture : Naming → Transfer → List Placed → List Placed → List Datagram
server_capture name x whole part = map (captured_at_server name x whole) (filter (is_at_server x.number whole) part)

abbrev pub server_header : Transfer → Header
server_header x = record { named = Server; service = x.asked.port; rollover = None }
