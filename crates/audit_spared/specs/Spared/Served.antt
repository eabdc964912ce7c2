-- What holds of every recording at a server's host in which captures of lawful transfers are interleaved. Lists have the newest
-- first.
use Rattle.std.specs.Prelude.{◌≡◌, ℕ, ◌&&◌, ◌||◌, not, Bool, true, false, List, [], ◌∷◌, ◌++◌, map, reverse, filter, Contains, Option, Some, None}
use Rattle.std.specs.List.{list_any}
use Rattle.tftp_packet.specs.{Server}
use Rattle.tftp_packet.specs.Hosts.{Datagram, Header}
use Rattle.tftp_packet.specs.{In, Out}
use Rattle.law_end.specs.{IsLawful, IsRefused, Rule}
use Rattle.audit_flows.specs.Lines.{Recorded, Placed, same_endpoint, is_between, is_of, is_request, may_be_earlier, other_of}
use Rattle.audit_flows.specs.{Address, Endpoint, Place, Opens, Repeats, Talks, Beside, Transfer}
use Rattle.audit_flows.specs.Lines.Doubting.{line_before}
use Rattle.audit_flows.specs.Transfers.Places.{placed}
use Rattle.audit_flows.specs.Transfers.Views.{is_at_server, is_end, server_of}
use Rattle.audit_flows.specs.Transfers.Doubts.{is_beside, is_doubtful_at_server}
use Rattle.audit_spared.specs.Spared.Seen.{HasNoSilence, is_with}
use Rattle.audit_spared.specs.Spared.Captures.{AreInOrder, AsksInTime}
use Rattle.audit_spared.specs.Spared.Spared.{AskersAreElsewhere, FollowOneAnother, HaveOwnNames, needs_doubt}

-- ---- one capture

abbrev pub at_server_of : ℕ → Header
at_server_of port = record { named = Server; service = port; rollover = None }

-- as a capture at a server has it, whether it went out or came in; `write` names a host
abbrev pub captured_there : (Address → List ℕ) → Bool → Recorded → Datagram
captured_there write true d = record { dir = Out; local = d.source.port; host = write d.target.address; remote = d.target.port; payload = d.payload }
captured_there write false d = record { dir = In; local = d.target.port; host = write d.source.address; remote = d.source.port; payload = d.payload }

-- what passed with this client comes in if the client sent it
abbrev pub as_served : (Address → List ℕ) → Endpoint → Recorded → Datagram
as_served write c d = captured_there write (not (same_endpoint d.source c)) d

-- All that passed between a client and a server while the two took part in one lawful transfer.
pub record IsServedCapture (write : Address → List ℕ) (c : Endpoint) (capture : List Recorded) : Type 0 where
  pub lawful : IsLawful (at_server_of 69) (map (as_served write c) (reverse capture))
  pub steady : HasNoSilence capture

-- And no request came late.
pub record IsTimelyCapture (write : Address → List ℕ) (c : Endpoint) (capture : List Recorded) : Type 0 where
  pub served : IsServedCapture write c capture
  pub in_time : AsksInTime c capture

-- ---- the recording

-- the clients speak with this host alone
abbrev pub AreAtHost : Address → List Endpoint → List Recorded → Type 0
AreAtHost host clients recorded = (d : Recorded) (c : Endpoint) → Contains recorded d → Contains clients c → is_with c d ≡ true → (other_of c d).address ≡ host

-- Between each of these clients and the server's host one such capture follows the other; who else asks speaks with none of them;
-- and the times do not go back.
pub record AreServed (IsCapture : Endpoint → List Recorded → Type 0) (write : Address → List ℕ) (host : Address) (clients : List Endpoint) (recorded : List Recorded) : Type 0 where
  pub captures : (c : Endpoint) → Contains clients c → FollowOneAnother (IsCapture c) (filter (is_with c) recorded)
  pub here : AreAtHost host clients recorded
  pub others : AskersAreElsewhere clients recorded
  pub hosts : HaveOwnNames write recorded
  pub order : AreInOrder recorded

-- ---- what the server saw of a transfer

-- the transfer that a datagram is of, or beside whose server it passed
abbrev pub transfer_beside : Place → Option Transfer
transfer_beside (Opens x) = Some x
transfer_beside (Repeats x) = Some x
transfer_beside (Talks x) = Some x
transfer_beside (Beside x) = Some x
transfer_beside _ = None

-- Of a talk what the client did not send goes out, and of what passed beside what came from the server. A request comes in.
abbrev pub went_out : Transfer → List Placed → Placed → Bool
went_out x whole p = by p.place where
  by : Place → Bool
  by (Talks y) = not (same_endpoint p.datagram.source x.client)
  by (Beside y) = is_end p.datagram.source (server_of x.number whole)
  by _ = false

abbrev pub seen_at_server : (Address → List ℕ) → Transfer → List Placed → Placed → Datagram
seen_at_server write x whole p = captured_there write (went_out x whole p) p.datagram

-- of a part of the whole, what the server saw
abbrev pub server_saw : (Address → List ℕ) → Transfer → List Placed → List Placed → List Datagram
server_saw write x whole part = map (seen_at_server write x whole) (filter (is_at_server x.number whole) part)

-- ---- a doubt

-- a talk between the client of this transfer and this endpoint, but of another transfer
abbrev pub is_talk_of_another : Transfer → Endpoint → Placed → Bool
is_talk_of_another x o q = not (is_request q) && (is_between x.client o q.datagram && not (is_of x.number q))

-- the two had talked of another transfer before, in the line of the client
abbrev pub is_shared : Placed → List Placed → Bool
is_shared p older = by p.place where
  by : Place → Bool
  by (Talks x) = list_any (is_talk_of_another x (other_of x.client p.datagram)) (line_before x.client p older)
  by _ = false

-- ---- nobody is accused

-- no server's view is refused without one of five doubts: the three that a client's needs, that the refused datagram passed with
-- another than the client, and that it passed where another transfer was talked of
abbrev pub SparesServersByFive : Type 0
SparesServersByFive =
    (write : Address → List ℕ) (host : Address) (clients : List Endpoint) (recorded : List Recorded) → AreServed (IsServedCapture write) write host clients recorded
    → (newer older : List Placed) (p : Placed) → placed [] recorded ≡ newer ++ p ∷ older
    → (x : Transfer) → transfer_beside p.place ≡ Some x → Contains clients x.client
    → (rule : Rule) → IsRefused (at_server_of x.asked.port) (server_saw write x (placed [] recorded) older) (seen_at_server write x (placed [] recorded) p) rule
    → (needs_doubt x.number (placed [] recorded) p older || is_beside p || is_shared p older) ≡ true

-- The program's own doubt is enough in the place of the last: that the refused datagram may be of an earlier transfer between the
-- same two.
abbrev pub SparesLateServersByFive : Type 0
SparesLateServersByFive =
    (write : Address → List ℕ) (host : Address) (clients : List Endpoint) (recorded : List Recorded) → AreServed (IsServedCapture write) write host clients recorded
    → (newer older : List Placed) (p : Placed) → placed [] recorded ≡ newer ++ p ∷ older
    → (x : Transfer) → transfer_beside p.place ≡ Some x → Contains clients x.client
    → (rule : Rule) → IsRefused (at_server_of x.asked.port) (server_saw write x (placed [] recorded) older) (seen_at_server write x (placed [] recorded) p) rule
    → (needs_doubt x.number (placed [] recorded) p older || is_beside p || may_be_earlier p older) ≡ true

-- so no server's view is refused without a doubt, though requests may come late
abbrev pub SparesLateServers : Type 0
SparesLateServers =
    (write : Address → List ℕ) (host : Address) (clients : List Endpoint) (recorded : List Recorded) → AreServed (IsServedCapture write) write host clients recorded
    → (newer older : List Placed) (p : Placed) → placed [] recorded ≡ newer ++ p ∷ older
    → (x : Transfer) → transfer_beside p.place ≡ Some x → Contains clients x.client
    → (rule : Rule) → IsRefused (at_server_of x.asked.port) (server_saw write x (placed [] recorded) older) (seen_at_server write x (placed [] recorded) p) rule
    → is_doubtful_at_server x.number (placed [] recorded) p older ≡ true

-- where requests come in time, the last is not needed
abbrev pub SparesServersByFour : Type 0
SparesServersByFour =
    (write : Address → List ℕ) (host : Address) (clients : List Endpoint) (recorded : List Recorded) → AreServed (IsTimelyCapture write) write host clients recorded
    → (newer older : List Placed) (p : Placed) → placed [] recorded ≡ newer ++ p ∷ older
    → (x : Transfer) → transfer_beside p.place ≡ Some x → Contains clients x.client
    → (rule : Rule) → IsRefused (at_server_of x.asked.port) (server_saw write x (placed [] recorded) older) (seen_at_server write x (placed [] recorded) p) rule
    → (needs_doubt x.number (placed [] recorded) p older || is_beside p) ≡ true

-- and so no server's view is refused without a doubt
abbrev pub SparesServers : Type 0
SparesServers =
    (write : Address → List ℕ) (host : Address) (clients : List Endpoint) (recorded : List Recorded) → AreServed (IsTimelyCapture write) write host clients recorded
    → (newer older : List Placed) (p : Placed) → placed [] recorded ≡ newer ++ p ∷ older
    → (x : Transfer) → transfer_beside p.place ≡ Some x → Contains clients x.client
    → (rule : Rule) → IsRefused (at_server_of x.asked.port) (server_saw write x (placed [] recorded) older) (seen_at_server write x (placed [] recorded) p) rule
    → is_doubtful_at_server x.number (placed [] recorded) p older ≡ true
