-- The line of a client, and where a datagram belongs by one line. Lists have the newest first.
use Rattle.std.specs.Prelude.{ℕ, ◌+◌, ◌==◌, ◌&&◌, ◌||◌, not, nat_le, Bool, true, false, List, [], ◌∷◌, Option, Some, None, option_map, if◌then◌else◌}
use Rattle.law_model.specs.Rules.{first_of}
use Rattle.audit_flows.specs.declared.lines.endpoint.Endpoint.{Endpoint}
use Rattle.audit_flows.specs.declared.lines.place.Place.{Place}
use Rattle.audit_flows.specs.declared.lines.place.Place.TheVariants.{Opens, Repeats, Talks, Apart, Nowhere}
use Rattle.audit_flows.specs.declared.lines.place.Transfer.{Transfer}
use Rattle.audit_flows.specs.declared.lines.line.Talk.{Talk}
use Rattle.audit_flows.specs.Lines.Recording.{Recorded, same_address, same_endpoint, begins_write, has_window, is_ack_0, is_data_1, is_answer, goes, is_between, is_again}

-- a datagram, the greatest time up to it, and its place
pub record Placed : Type 0 where
  pub datagram : Recorded
  pub moment : ℕ
  pub place : Place

-- ---- tests of places

abbrev pub opens : Placed → Bool
opens p = by p.place where
  by : Place → Bool
  by (Opens x) = true
  by _ = false

abbrev pub is_request : Placed → Bool
is_request p = by p.place where
  by : Place → Bool
  by (Opens x) = true
  by (Repeats x) = true
  by _ = false

abbrev pub is_apart : Placed → Bool
is_apart p = by p.place where
  by : Place → Bool
  by (Apart c) = true
  by _ = false

-- it passed at this client's endpoint
abbrev pub is_at : Endpoint → Placed → Bool
is_at c p = by p.place where
  by : Place → Bool
  by (Opens x) = same_endpoint x.client c
  by (Repeats x) = same_endpoint x.client c
  by (Talks x) = same_endpoint x.client c
  by (Apart a) = same_endpoint a c
  by _ = false

-- the transfer that it is of at its client, if it is of one
abbrev pub transfer_of : Place → Option Transfer
transfer_of (Opens x) = Some x
transfer_of (Repeats x) = Some x
transfer_of (Talks x) = Some x
transfer_of _ = None

-- it passed at the client of the transfer with this number
abbrev pub is_of : ℕ → Placed → Bool
is_of n p = by p.place where
  by : Place → Bool
  by (Opens x) = x.number == n
  by (Repeats x) = x.number == n
  by (Talks x) = x.number == n
  by _ = false

-- the newest that passes the test
abbrev pub newest_of : (Placed → Bool) → List Placed → Option Placed
newest_of test [] = None
newest_of test (p ∷ older) = if test p then Some p else newest_of test older

-- ---- the line of a client: what passed at its endpoint since it was last silent for 300 s

-- above 255 s, the longest timeout that two ends can agree on (RFC 2349)
abbrev pub silence : ℕ
silence = 300000000000

-- the line, unless it has been silent until now
abbrev pub live : ℕ → List Placed → List Placed
live now [] = []
live now (p ∷ older) = if nat_le now (p.moment + silence) then p ∷ older else []

abbrev pub line : Endpoint → List Placed → List Placed
line c [] = []
line c (p ∷ older) = if is_at c p then p ∷ live p.moment (line c older) else line c older

-- the greatest time up to the newest
abbrev pub clock : List Placed → ℕ
clock [] = 0
clock (p ∷ older) = p.moment

-- the transfer that was opened last
abbrev pub latest_in : List Placed → Option Transfer
latest_in line = by (newest_of opens line) where
  by : Option Placed → Option Transfer
  by None = None
  by (Some p) = transfer_of p.place

-- the client's last word to it was ACK 0
abbrev pub last_was_ack_0 : Endpoint → Endpoint → List Placed → Bool
last_was_ack_0 c o line = by (newest_of (λ p. not (is_request p) && goes c o p.datagram) line) where
  by : Option Placed → Bool
  by None = false
  by (Some p) = is_ack_0 p.datagram.payload

-- the transfer that is talked of
abbrev pub talked_of : Place → Option Transfer
talked_of (Talks x) = Some x
talked_of _ = None

-- What passed last between the client and another, requests aside: the transfer that it is of, and whether the client's
-- last word was ACK 0.
abbrev pub talk_in : Endpoint → Endpoint → List Placed → Option Talk
talk_in c o line =
    option_map (λ p. record { transfer = talked_of p.place; acked_0 = last_was_ack_0 c o line })
    (newest_of (λ p. not (is_request p) && is_between c o p.datagram) line)

-- ---- requests

abbrev pub opening : ℕ → Recorded → Transfer
opening number d = record { number = number; client = d.source; asked = d.target; writes = begins_write d.payload; has_window = has_window d.payload }

abbrev pub opened_by : ℕ → Recorded → Place
opened_by number d = Opens (opening number d)

-- A request repeats the one that stands before it in the line, if that is the same. Any other opens a transfer.
abbrev pub asked_after : Place → Place → Bool → Place
asked_after opened (Opens x) again = if again then Repeats x else opened
asked_after opened (Repeats x) again = if again then Repeats x else opened
asked_after opened _ again = opened

abbrev pub place_asked : ℕ → Recorded → List Placed → Place
place_asked number d line = by (newest_of (λ p. not (is_apart p)) line) where
  by : Option Placed → Place
  by None = opened_by number d
  by (Some p) = asked_after (opened_by number d) p.place (is_again p.datagram d)

-- ---- what passes between a client and another endpoint, and is no request

-- what passed since the latest transfer was opened
abbrev pub reach : List Placed → List Placed
reach [] = []
reach (p ∷ line) = if opens p then [] else p ∷ reach line

-- it came to the client, in this transfer
abbrev pub answers : Transfer → Placed → Bool
answers x p = by p.place where
  by : Place → Bool
  by (Talks y) = (y.number == x.number) && same_endpoint p.datagram.target x.client
  by _ = false

-- who first sent the client a datagram of this transfer, the latest one
abbrev pub answered_in : Transfer → List Placed → Option Endpoint
answered_in x line = option_map (λ p. p.datagram.source) (first_of (answers x) (reach line))

-- the host that was asked, or that answered
abbrev pub is_known_host : Transfer → Option Endpoint → Endpoint → Bool
is_known_host x answered o = same_address o.address x.asked.address || by answered where
  by : Option Endpoint → Bool
  by None = false
  by (Some first) = same_address o.address first.address

-- it may be the first answer to the latest request: nobody has answered that yet
abbrev pub may_answer : Endpoint → Endpoint → Option Endpoint → Recorded → Bool
may_answer c o None d = goes o c d && is_answer d.payload
may_answer c o (Some first) d = false

-- The first between the two is of the latest transfer; but where the client speaks first to a host that was not asked
-- and has not answered, the two are apart. What follows is of the transfer that they talk of; but a first answer is of
-- the latest one. DATA 1 to a client whose last word was ACK 0 answers that, and no request.
abbrev pub place_talked : Endpoint → Endpoint → Transfer → Option Endpoint → Recorded → Option Talk → Place
place_talked c o latest answered d None =
    if same_endpoint d.source c && not (is_known_host latest answered o) then Apart c else Talks latest
place_talked c o latest answered d (Some talk) = by talk.transfer where
  by : Option Transfer → Place
  by None = Apart c
  by (Some x) = if may_answer c o answered d && not (is_data_1 d.payload && talk.acked_0) then Talks latest else Talks x

abbrev pub place_at : Endpoint → Endpoint → List Placed → Recorded → Place
place_at c o line d = by (latest_in line) where
  by : Option Transfer → Place
  by None = Nowhere
  by (Some x) = place_talked c o x (answered_in x line) d (talk_in c o line)
