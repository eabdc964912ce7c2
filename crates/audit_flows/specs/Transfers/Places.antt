-- Which datagrams of a recording are one transfer. Lists have the newest first. A datagram's place is a matter of those
-- before it alone, so the place of each is known when it passes.
use Rattle.std.specs.Prelude.{ℕ, ◌+◌, ◌==◌, ◌&&◌, ◌||◌, not, nat_le, max, Bool, true, false, List, [], ◌∷◌, length, Option, Some, None, is_some, if◌then◌else◌}
use Rattle.std.specs.List.{list_any}
use Rattle.audit_flows.specs.Lines.{Recorded, begins_request, goes, Placed, is_request, silence, live, line, latest_in, talk_in, place_asked, place_at, clock}
use Rattle.audit_flows.specs.declared.lines.endpoint.Endpoint.{Endpoint}
use Rattle.audit_flows.specs.declared.lines.place.Place.{Place}
use Rattle.audit_flows.specs.declared.lines.place.Place.TheVariants.{Talks, Beside, Nowhere}
use Rattle.audit_flows.specs.declared.lines.place.Transfer.{Transfer}
use Rattle.audit_flows.specs.declared.transfers.attribution.Served.{Served}

-- ---- requests

-- A service port: 69, one that was named, or one to which a request went before.
abbrev pub is_service : List ℕ → List Placed → ℕ → Bool
is_service named older port =
    (port == 69) || list_any (λ n. n == port) named || list_any (λ p. is_request p && (p.datagram.target.port == port)) older

-- it has asked, and has not been silent for 300 s since
abbrev pub is_client : List Placed → ℕ → Endpoint → Bool
is_client older now e = is_some (latest_in (live now (line e older)))

-- A request goes to port 69 or to one that was named. To an endpoint that is no client itself it may go to any service port too;
-- or it is one from its first byte to its last, and its client does not talk with that endpoint.
abbrev pub asks : List ℕ → List Placed → ℕ → Recorded → Bool
asks named older now d =
    begins_request d.payload
    && (is_service named [] d.target.port
    || (not (is_client older now d.target)
    && (is_service named older d.target.port || (d.is_spelled && not (is_some (talk_in d.source d.target (live now (line d.source older))))))))

-- ---- what passes between a client and another endpoint, and is no request

-- at the client that sent it, or at the one that it was sent to: a transfer comes before what is apart
abbrev pub or_talks : Place → Place → Place
or_talks one (Talks x) = Talks x
or_talks one other = one

abbrev pub either : Place → Place → Place
either (Talks x) other = Talks x
either Nowhere other = other
either one other = or_talks one other

abbrev pub at_client : List Placed → ℕ → Recorded → Place
at_client older now d =
    either (place_at d.source d.target (live now (line d.source older)) d) (place_at d.target d.source (live now (line d.target older)) d)

-- ---- what passes between a server and another than its client

-- it was sent to a client from there, in a transfer
abbrev pub serves : Endpoint → Placed → Option Served
serves o p = by p.place where
  by : Place → Option Served
  by (Talks x) = if goes o x.client p.datagram then Some (record { transfer = x; moment = p.moment }) else None
  by _ = None

abbrev pub newer : Option Served → Option Served → Option Served
newer None older = older
newer (Some one) older = Some one

-- what was sent last from there
abbrev pub last_served : Endpoint → List Placed → Option Served
last_served o [] = None
last_served o (p ∷ older) = newer (serves o p) (last_served o older)

abbrev pub served_within : ℕ → Option Served → Option Transfer
served_within now None = None
served_within now (Some served) = if nat_le now (served.moment + silence) then Some served.transfer else None

-- the transfer in which the endpoint last sent to a client, in the last 300 s
abbrev pub served_by : Endpoint → ℕ → List Placed → Option Transfer
served_by o now older = served_within now (last_served o older)

-- At a service port nobody is told apart.
abbrev pub served_at : List ℕ → List Placed → ℕ → Endpoint → Option Transfer
served_at named older now o = if is_service named older o.port then None else served_by o now older

abbrev pub beside_by : Option Transfer → Option Transfer → Place
beside_by (Some x) other = Beside x
beside_by None (Some x) = Beside x
beside_by None None = Nowhere

abbrev pub beside : List ℕ → List Placed → ℕ → Recorded → Place
beside named older now d = beside_by (served_at named older now d.source) (served_at named older now d.target)

-- ---- the whole recording

abbrev pub is_nowhere : Place → Bool
is_nowhere Nowhere = true
is_nowhere place = false

abbrev pub place_of : List ℕ → List Placed → ℕ → Recorded → Place
place_of named older now d =
    if asks named older now d then place_asked (length older) d (live now (line d.source older))
    else if is_nowhere (at_client older now d) then beside named older now d
    else at_client older now d

-- one more datagram, after those that have their places
abbrev pub and_then : List ℕ → List Placed → Recorded → List Placed
and_then named older d =
    record { datagram = d; moment = max d.time (clock older); place = place_of named older (max d.time (clock older)) d } ∷ older

-- each datagram of a recording with its place; `named` are the service ports that were named
abbrev pub placed : List ℕ → List Recorded → List Placed
placed named [] = []
placed named (d ∷ recorded) = and_then named (placed named recorded) d
