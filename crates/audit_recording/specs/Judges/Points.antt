-- At which points a transfer is judged.
use Rattle.std.specs.Prelude.{◌&&◌, ◌∷◌, [], Bool, true, false, nat_eq, not, Option, Some, None}
use Rattle.std.specs.List.{starts_with}
use Rattle.std.specs.Str.{bytes_eq}
use Rattle.audit_recording.specs.declared.judges.judging.Judging.{Judging}
use Rattle.audit_recording.specs.declared.judges.judging.Judging.TheVariants.{Nowhere, Client, Server, ClientBy, ServerBy, Between, BetweenBy, WhereRecorded}
use Rattle.audit_recording.specs.declared.judges.judging.Points.{Points}
use Rattle.tftp_packet.specs.{Rollover}
use Rattle.audit_flows.specs.Lines.{same_address}
use Rattle.audit_flows.specs.{Address, Transfer, V4, V6}

-- the client asks at its own address: what passes at a host with that address passes at both ends
abbrev pub is_at_own_host : Transfer → Bool
is_at_own_host x = same_address x.client.address x.asked.address

-- What is sent from this address never leaves its host: it is one of 127.0.0.0/8 (RFC 1122, section 3.2.1.3) or ::1 (RFC 4291,
-- section 2.5.3).
abbrev pub is_loopback : Address → Bool
is_loopback (V4 bytes) = starts_with nat_eq bytes (127 ∷ [])
is_loopback (V6 bytes) = bytes_eq bytes (0 ∷ 0 ∷ 0 ∷ 0 ∷ 0 ∷ 0 ∷ 0 ∷ 0 ∷ 0 ∷ 0 ∷ 0 ∷ 0 ∷ 0 ∷ 0 ∷ 0 ∷ 1 ∷ [])

-- What passed between the two ends never left their host, so that it was recorded there. Of two ends with one other address it
-- is not known: they may be at one host, or behind a router that writes one address in place of both.
abbrev pub is_inside_host : Transfer → Bool
is_inside_host x = is_at_own_host x && is_loopback x.client.address

abbrev pub points_of : Judging → Transfer → Points
points_of Nowhere x = record { client = false; server = false; between = false }
points_of Client x = record { client = true; server = false; between = false }
points_of Server x = record { client = false; server = true; between = false }
points_of (ClientBy r) x = record { client = true; server = false; between = false }
points_of (ServerBy r) x = record { client = false; server = true; between = false }
points_of Between x = record { client = false; server = false; between = true }
points_of (BetweenBy r) x = record { client = false; server = false; between = true }
points_of WhereRecorded x = record { client = is_at_own_host x; server = is_at_own_host x; between = not (is_inside_host x) }

-- what comes after block 65535 there, where anything does
abbrev pub rollover_of : Judging → Option Rollover
rollover_of (ClientBy r) = Some r
rollover_of (ServerBy r) = Some r
rollover_of (BetweenBy r) = Some r
rollover_of _ = None
