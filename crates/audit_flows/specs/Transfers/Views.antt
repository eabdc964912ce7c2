-- What each end of a transfer saw of it. Lists have the newest first; a transfer is known by its number.
use Rattle.std.specs.Prelude.{ℕ, ◌==◌, ◌&&◌, ◌||◌, not, Bool, false, List, filter, Option, Some, None, option_map}
use Rattle.law_model.specs.Rules.{first_of}
use Rattle.audit_flows.specs.Lines.{Recorded, same_address, same_endpoint, other_of, begins_error, Placed, is_of}
use Rattle.audit_flows.specs.declared.lines.endpoint.Endpoint.{Endpoint}
use Rattle.audit_flows.specs.declared.lines.place.Transfer.{Transfer}
use Rattle.audit_flows.specs.declared.lines.place.Place.{Place}
use Rattle.audit_flows.specs.declared.lines.place.Place.TheVariants.{Opens, Repeats, Talks, Apart, Beside, Nowhere}

abbrev pub client_view : ℕ → List Placed → List Placed
client_view n placed = filter (is_of n) placed

-- ---- the server

-- the client sent what is no request and no ERROR
abbrev pub goes_on : ℕ → Placed → Bool
goes_on n p = by p.place where
  by : Place → Bool
  by (Talks x) = (x.number == n) && same_endpoint p.datagram.source x.client && not (begins_error p.datagram.payload)
  by _ = false

-- it came to the client
abbrev pub comes : ℕ → Placed → Bool
comes n p = by p.place where
  by : Place → Bool
  by (Talks x) = (x.number == n) && same_endpoint p.datagram.target x.client
  by _ = false

abbrev pub opened_it : ℕ → Placed → Bool
opened_it n p = by p.place where
  by : Place → Bool
  by (Opens x) = x.number == n
  by _ = false

abbrev pub went_on_with : ℕ → List Placed → Option Endpoint
went_on_with n placed = option_map (λ p. p.datagram.target) (first_of (goes_on n) placed)

abbrev pub answered_by : ℕ → List Placed → Option Endpoint
answered_by n placed = option_map (λ p. p.datagram.source) (first_of (comes n) placed)

abbrev pub asked_of : ℕ → List Placed → Option Endpoint
asked_of n placed = option_map (λ p. p.datagram.target) (first_of (opened_it n) placed)

-- with whom the client went on, or else who sent it something first
abbrev pub server_of : ℕ → List Placed → Option Endpoint
server_of n placed = by (went_on_with n placed) where
  by : Option Endpoint → Option Endpoint
  by None = answered_by n placed
  by (Some s) = Some s

abbrev pub has_host : Endpoint → Option Endpoint → Bool
has_host o None = false
has_host o (Some s) = same_address o.address s.address

abbrev pub has_port : Endpoint → Option Endpoint → Bool
has_port o None = false
has_port o (Some s) = o.port == s.port

abbrev pub is_end : Endpoint → Option Endpoint → Bool
is_end o None = false
is_end o (Some s) = same_endpoint o s

-- at the server's port, and a host that was asked, that answered, or that the client went on with
abbrev pub is_server : ℕ → List Placed → Endpoint → Bool
is_server n placed o =
    has_port o (server_of n placed)
    && (has_host o (asked_of n placed) || has_host o (answered_by n placed) || has_host o (went_on_with n placed))

-- the client sent it to where it had asked
abbrev pub goes_to_asked : Transfer → Recorded → Bool
goes_to_asked x d = same_endpoint d.source x.client && same_endpoint d.target x.asked

-- The requests, what passed between the client and the server, what else the client sent to where it had asked, and what passed
-- between the server and others.
abbrev pub is_at_server : ℕ → List Placed → Placed → Bool
is_at_server n placed p = by p.place where
  by : Place → Bool
  by (Opens x) = x.number == n
  by (Repeats x) = x.number == n
  by (Talks x) = (x.number == n) && (is_server n placed (other_of x.client p.datagram) || goes_to_asked x p.datagram)
  by (Beside x) = (x.number == n) && (is_end p.datagram.source (server_of n placed) || is_end p.datagram.target (server_of n placed))
  by (Apart c) = false
  by Nowhere = false

abbrev pub server_view : ℕ → List Placed → List Placed
server_view n placed = filter (is_at_server n placed) placed

-- it passed at the transfer's client, or beside its server: no other is in either view
abbrev pub is_about : ℕ → Placed → Bool
is_about n p = by p.place where
  by : Place → Bool
  by (Opens x) = x.number == n
  by (Repeats x) = x.number == n
  by (Talks x) = x.number == n
  by (Apart c) = false
  by (Beside x) = x.number == n
  by Nowhere = false
