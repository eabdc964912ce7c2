-- Datagrams of a recording as a client's own capture has them. Lists have the newest first.
use Rattle.std.specs.Prelude.{◌≤◌, ℕ, ◌+◌, ◌||◌, Bool, List, [], ◌∷◌, if◌then◌else◌, None}
use Rattle.tftp_packet.specs.Hosts.{Datagram, Header}
use Rattle.tftp_packet.specs.{In, Out}
use Rattle.tftp_packet.specs.{Client}
use Rattle.audit_flows.specs.Lines.{Recorded, same_endpoint, silence}
use Rattle.audit_flows.specs.{Address, Endpoint}

-- the client's endpoint sent or received it
abbrev pub is_with : Endpoint → Recorded → Bool
is_with c d = same_endpoint d.source c || same_endpoint d.target c

-- as a capture at the client has it; `write` names a host
abbrev pub as_seen_by : (Address → List ℕ) → Endpoint → Recorded → Datagram
as_seen_by write c d =
    if same_endpoint d.source c then record { dir = Out; local = d.source.port; host = write d.target.address; remote = d.target.port; payload = d.payload }
    else record { dir = In; local = d.target.port; host = write d.source.address; remote = d.source.port; payload = d.payload }

abbrev pub at_client_of : ℕ → Header
at_client_of port = record { named = Client; service = port; rollover = None }

-- no two neighbours are more than 300 s apart, and the times do not go back
abbrev pub HasNoSilence : List Recorded → Type 0
HasNoSilence [] = Unit {0}
HasNoSilence (d ∷ []) = Unit {0}
HasNoSilence (d ∷ e ∷ older) = (e.time ≤ d.time) × (d.time ≤ e.time + silence) × HasNoSilence (e ∷ older)
