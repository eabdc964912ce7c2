-- Who is accused where a datagram is refused. Lists have the newest first.
use Rattle.std.specs.Prelude.{◌&&◌, ◌||◌, Bool, false, List, [], map, Option, Some, None, option_map, if◌then◌else◌}
use Rattle.tftp_packet.specs.{End, Client, Server}
use Rattle.audit_flows.specs.Lines.{Placed, Recorded, same_address, same_endpoint}
use Rattle.audit_flows.specs.{Endpoint, Transfer}
use Rattle.audit_flows.specs.Transfers.{has_host, has_port, placed, server_of}
use Rattle.audit_recording.specs.Rows.Told.{is_refused, telling_depends}
use Rattle.audit_recording.specs.declared.rows.accused.Accused.{Accused}
use Rattle.audit_recording.specs.declared.rows.telling.Telling.{Telling}

-- It has the port of the endpoint with which the client went on, or else of the first that answered, and is at that host or
-- at the one that was asked, which may have several addresses.
abbrev pub is_servers : Transfer → List Placed → Endpoint → Bool
is_servers x whole o =
    has_port o (server_of x.number whole) && (has_host o (server_of x.number whole) || same_address o.address x.asked.address)

-- which end of the transfer is at this endpoint, once all datagrams have passed: a stranger's is neither's
-- (RFC 1350, section 4)
abbrev pub role_at : Transfer → List Placed → Endpoint → Option End
role_at x whole o =
    if same_endpoint o x.client then Some Client
    else if is_servers x whole o then Some Server
    else None

-- Each rule is one of those that send: a refused datagram accuses the end that sent it, unless the refusal is doubtful.
abbrev pub accused_of : Transfer → List Placed → Placed → Bool → Option Accused
accused_of x whole p doubtful =
    if doubtful then None
    else option_map (λ role. record { role = role; end = p.datagram.source }) (role_at x whole p.datagram.source)

-- Whom a row accuses: nobody where it tells no refusal, or one that depends on the place.
abbrev pub accused_in_row : Transfer → List Placed → Placed → Telling → Bool → Option Accused
accused_in_row x whole p told doubtful =
    if is_refused told.said then accused_of x whole p (telling_depends told || doubtful) else None

-- ---- worked

-- of each datagram of a recording, whom its refusal would accuse
abbrev pub accused_in : Transfer → List Recorded → List (Option Accused)
accused_in x recorded = map (λ p. accused_of x (placed [] recorded) p false) (placed [] recorded)
