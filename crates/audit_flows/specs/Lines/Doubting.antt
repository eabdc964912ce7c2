-- What a datagram makes doubtful: when a refusal is no accusation. Lists have the newest first; a transfer is known by its
-- number.
use Rattle.std.specs.Prelude.{ℕ, ◌+◌, ◌==◌, ◌&&◌, ◌||◌, not, nat_le, nat_lt, Bool, true, false, List, [], ◌∷◌, Option, Some, None, is_some, if◌then◌else◌}
use Rattle.std.specs.List.{list_any}
use Rattle.audit_flows.specs.declared.lines.endpoint.Endpoint.{Endpoint}
use Rattle.audit_flows.specs.declared.lines.line.Talk.{Talk}
use Rattle.audit_flows.specs.declared.lines.place.Place.{Place}
use Rattle.audit_flows.specs.declared.lines.place.Place.TheVariants.{Opens, Repeats, Talks, Beside, Nowhere}
use Rattle.audit_flows.specs.declared.lines.place.Transfer.{Transfer}
use Rattle.audit_flows.specs.declared.lines.doubts.Doubts.{Doubts}
use Rattle.audit_flows.specs.Lines.Recording.{Recorded, same_endpoint, is_between, other_of, begins_error, begins_oack, begins_packet, begins_unknown_id, is_ack, is_ack_0, is_block, is_data_1, number_of, passes_in, asks_alike, refuses, same_address}
use Rattle.audit_flows.specs.Lines.Places.{Placed, is_request, opens, is_of, newest_of, live, line, silence, transfer_of, latest_in, reach, talk_in, answered_in, may_answer}

-- the client's line as the datagram came
abbrev pub line_before : Endpoint → Placed → List Placed → List Placed
line_before c p older = live p.moment (line c older)

-- another transfer than this, if any
abbrev pub is_another : Transfer → Option Transfer → Bool
is_another x None = false
is_another x (Some y) = not (y.number == x.number)

abbrev pub acked_0_in : Option Talk → Bool
acked_0_in None = false
acked_0_in (Some talk) = talk.acked_0

-- ---- what a datagram makes doubtful in its own transfer

-- its client had asked for another by then
abbrev pub is_late : Placed → List Placed → Bool
is_late p older = by p.place where
  by : Place → Bool
  by (Talks x) = is_another x (latest_in (line_before x.client p older))
  by _ = false

-- of this transfer, and later than that
abbrev pub is_later : ℕ → ℕ → Placed → Bool
is_later n time q = is_of n q && nat_lt time q.datagram.time

-- it is older than one of the transfer before it; or it opens the transfer, and is older than one before it in the recording
abbrev pub is_disordered : Placed → List Placed → Bool
is_disordered p older = by p.place where
  is_behind : Transfer → Bool
  is_behind x = list_any (is_later x.number p.datagram.time) (line_before x.client p older)

  by : Place → Bool
  by (Opens x) = nat_lt p.datagram.time p.moment
  by (Repeats x) = is_behind x
  by (Talks x) = is_behind x
  by _ = false

-- the client sent what is no request and no ERROR
abbrev pub says_more : Placed → Bool
says_more p = by p.place where
  by : Place → Bool
  by (Talks x) = same_endpoint p.datagram.source x.client && not (begins_error p.datagram.payload)
  by _ = false

abbrev pub is_alike_in : Recorded → Option Placed → Bool
is_alike_in d None = false
is_alike_in d (Some q) = asks_alike q.datagram d

-- it was opened by a request for the same file as the transfer before, whose client had sent nothing since but requests
-- and ERRORs: it may be that transfer still
abbrev pub is_asked_again : Placed → List Placed → Bool
is_asked_again p older = by p.place where
  by : Place → Bool
  by (Opens x) =
      is_alike_in p.datagram (newest_of is_request (line_before x.client p older))
      && not (list_any says_more (reach (line_before x.client p older)))
  by _ = false

-- its client had asked before, within its line
abbrev pub follows_request : Placed → List Placed → Bool
follows_request p older = by p.place where
  by : Place → Bool
  by (Opens x) = is_some (latest_in (line_before x.client p older))
  by (Repeats x) = true
  by _ = false

-- ---- with whom a client goes on

-- it comes to its client
abbrev pub comes_in : Placed → List Placed → Bool
comes_in p older = by p.place where
  by : Place → Bool
  by (Talks x) = same_endpoint p.datagram.target x.client
  by _ = false

abbrev pub is_the_one : Endpoint → Option Endpoint → Bool
is_the_one o None = false
is_the_one o (Some first) = same_endpoint o first

-- who first sent a client something in its latest transfer
abbrev pub answered_last : List Placed → Option Endpoint
answered_last line = by (latest_in line) where
  by : Option Transfer → Option Endpoint
  by None = None
  by (Some x) = answered_in x line

-- With it the client goes on with who sent it something first in the transfer, and has not asked for another by then. ERROR 5,
-- "Unknown transfer ID", is what a client sends to a stray (RFC 1350, section 4); any other ERROR it sends to its server.
abbrev pub goes_on_with_first : Placed → List Placed → Bool
goes_on_with_first p older = by p.place where
  by : Place → Bool
  by (Talks x) =
      same_endpoint p.datagram.source x.client && not (begins_unknown_id p.datagram.payload) && not (is_late p older)
      && is_the_one p.datagram.target (answered_last (line_before x.client p older))
  by _ = false

-- its client sent it to where nothing had passed between the two
abbrev pub speaks_first : Placed → List Placed → Bool
speaks_first p older = by p.place where
  by : Place → Bool
  by (Talks x) = same_endpoint p.datagram.source x.client && not (is_some (talk_in x.client (other_of x.client p.datagram) (line_before x.client p older)))
  by _ = false

-- the client and this endpoint talk by it, and it is no ERROR 0 and no ERROR 5: each of these may come at any time
abbrev pub is_word : Endpoint → Endpoint → Placed → Bool
is_word c o q = not (is_request q) && (is_between c o q.datagram && (not (begins_error q.datagram.payload) || refuses q.datagram.payload))

-- A client's first word in a transfer: before it requests, ERROR 0 and ERROR 5 alone had passed between the two, and it is what a
-- client may say first to who has answered it. The answer did not pass: the recording began later, it may be.
abbrev pub says_first_word : Placed → List Placed → Bool
says_first_word p older = by p.place where
  by : Place → Bool
  by (Talks x) =
      same_endpoint p.datagram.source x.client && not (list_any says_more (reach (line_before x.client p older)))
      && not (list_any (is_word x.client (other_of x.client p.datagram)) (line_before x.client p older))
      && (passes_in x.writes true p.datagram.payload && nat_le (number_of p.datagram.payload) 1)
  by _ = false

-- ---- what else passed at an endpoint of the recording

-- it begins as a packet of TFTP does, or goes to where requests go
abbrev pub may_be_tftp : Recorded → Bool
may_be_tftp d = begins_packet d.payload || (d.target.port == 69)

-- it is of no client's line
abbrev pub is_apart_from_lines : Place → Bool
is_apart_from_lines (Beside x) = true
is_apart_from_lines Nowhere = true
is_apart_from_lines _ = false

-- it passed at this endpoint, of no client's line
abbrev pub is_stray_at : Endpoint → Placed → Bool
is_stray_at e p =
    is_apart_from_lines p.place && may_be_tftp p.datagram
    && (same_endpoint p.datagram.source e || same_endpoint p.datagram.target e)

-- no more than 300 s ago
abbrev pub is_near : ℕ → Option Placed → Bool
is_near now None = false
is_near now (Some q) = nat_le now (q.moment + silence)

-- It opens a transfer at an endpoint at which such a datagram passed in the last 300 s: of a transfer, it may be, whose
-- request was not recorded.
abbrev pub follows_strays : Placed → List Placed → Bool
follows_strays p older = by p.place where
  by : Place → Bool
  by (Opens x) = is_near p.moment (newest_of (is_stray_at x.client) older)
  by _ = false

-- the host that its client had asked refuses the request
abbrev pub is_refusal : Placed → Bool
is_refusal p = by p.place where
  by : Place → Bool
  by (Talks x) =
      same_endpoint p.datagram.target x.client && same_address p.datagram.source.address x.asked.address
      && refuses p.datagram.payload
  by _ = false

-- the transfer with this number is answered for sure: its client goes on, or the host that it asked refuses it
abbrev pub answers_surely : ℕ → Placed → Bool
answers_surely n p = (says_more p || is_refusal p) && is_of n p

-- nobody has answered the latest transfer, or not for sure
abbrev pub is_unanswered : List Placed → Option Transfer → Bool
is_unanswered line None = false
is_unanswered line (Some latest) = not (is_some (answered_in latest line)) || not (list_any (answers_surely latest.number) (reach line))

-- the client of the line asked for another once, before anybody had answered for sure what it had asked last
abbrev pub leaves_unanswered : List Placed → Bool
leaves_unanswered [] = false
leaves_unanswered (q ∷ line) = (opens q && is_unanswered line (latest_in line)) || leaves_unanswered line

-- Its client had left a request by then, which nobody had answered for sure: what comes may be the late answer to that.
abbrev pub follows_unanswered : Placed → List Placed → Bool
follows_unanswered p older = by p.place where
  by : Place → Bool
  by (Opens x) = leaves_unanswered (p ∷ line_before x.client p older)
  by _ = false

-- ---- and in another

-- DATA 1 to a client whose last word there was ACK 0
abbrev pub is_next_data : Transfer → Endpoint → List Placed → Recorded → Bool
is_next_data x o before d = is_data_1 d.payload && acked_0_in (talk_in x.client o before)

-- the latest transfer, if this one of another may be its first answer
abbrev pub answer_of : Transfer → Endpoint → List Placed → Recorded → Option Transfer → Option ℕ
answer_of x o before d None = None
answer_of x o before d (Some latest) =
    if is_another x (Some latest) && (may_answer x.client o (answered_in latest before) d && is_next_data x o before d) then Some latest.number else None

-- DATA 1 of another transfer's endpoint, to a client whose last word there was ACK 0, may be the latest one's first answer
abbrev pub may_be_answer_of : Placed → List Placed → Option ℕ
may_be_answer_of p older = by p.place where
  by : Place → Option ℕ
  by (Talks x) = answer_of x (other_of x.client p.datagram) (line_before x.client p older) p.datagram (latest_in (line_before x.client p older))
  by _ = None

-- the client of its transfer sent it
abbrev pub is_sent_by_client : Placed → Bool
is_sent_by_client p = by (transfer_of p.place) where
  by : Option Transfer → Bool
  by None = false
  by (Some x) = same_endpoint p.datagram.source x.client

-- ---- what may be late from an earlier transfer between the same two

-- the client and this endpoint talk by it
abbrev pub is_talk : Endpoint → Endpoint → Placed → Bool
is_talk c o q = by q.place where
  by : Place → Bool
  by (Talks y) = is_between c o q.datagram
  by _ = false

-- in another transfer than the one with this number
abbrev pub is_other_talk : Endpoint → Endpoint → ℕ → Placed → Bool
is_other_talk c o n q = by q.place where
  by : Place → Bool
  by (Talks y) = is_between c o q.datagram && not (y.number == n)
  by _ = false

-- what passed up to the newest datagram by which the two talked in another transfer
abbrev pub before_talk : Endpoint → Endpoint → ℕ → List Placed → List Placed
before_talk c o n [] = []
before_talk c o n (q ∷ line) = if is_other_talk c o n q then q ∷ line else before_talk c o n line

-- how far the transfer may have come by then: where a window was asked for, anywhere (RFC 7440)
abbrev pub far : Transfer → Placed → ℕ
far y q = if y.has_window then 65535 else number_of q.datagram.payload

-- Whether a file is written by it: who writes sends blocks, and who reads ACKs (RFC 1350, section 2). What is neither is of its
-- transfer's side.
abbrev pub writes_by : Endpoint → Transfer → Recorded → Bool
writes_by c y d = if is_block d.payload then same_endpoint d.source c else (if is_ack d.payload then not (same_endpoint d.source c) else y.writes)

-- Such a payload of the client, or of the other end, may be of the transfer in which the two talk here: it is what this end
-- sends in one, and the next at the most (RFC 1350, section 2).
abbrev pub may_follow : Endpoint → Endpoint → Bool → List ℕ → Placed → Bool
may_follow c o is_client payload q = by q.place where
  by : Place → Bool
  by (Talks y) = is_between c o q.datagram && (passes_in (writes_by c y q.datagram) is_client payload && nat_le (number_of payload) (far y q + 1))
  by _ = false

-- it may be of an earlier transfer between the two, and late
abbrev pub may_be_earlier : Placed → List Placed → Bool
may_be_earlier p older = by p.place where
  by : Place → Bool
  by (Talks x) =
      list_any (may_follow x.client (other_of x.client p.datagram) (same_endpoint p.datagram.source x.client) p.datagram.payload)
      (before_talk x.client (other_of x.client p.datagram) x.number (line_before x.client p older))
  by _ = false

-- an OACK that may be so: what it agrees on is another transfer's
abbrev pub agrees_late : Placed → List Placed → Bool
agrees_late p older = may_be_earlier p older && begins_oack p.datagram.payload

-- a block or an ACK 0 that this end sends in such a transfer: whether it is lawful may rest on what was agreed (RFC 2347)
abbrev pub rests_on_terms : Placed → Bool
rests_on_terms p = by p.place where
  by : Place → Bool
  by (Talks x) = passes_in x.writes (same_endpoint p.datagram.source x.client) p.datagram.payload && (is_block p.datagram.payload || is_ack_0 p.datagram.payload)
  by _ = false

-- it is of a transfer, and ERROR 5
abbrev pub says_unknown_id : Placed → Bool
says_unknown_id p = by p.place where
  by : Place → Bool
  by (Talks x) = begins_unknown_id p.datagram.payload
  by _ = false

-- the client and this endpoint say ERROR 5 by it, "Unknown transfer ID" (RFC 1350, section 5)
abbrev pub is_unknown_talk : Endpoint → Endpoint → Placed → Bool
is_unknown_talk c o q = by q.place where
  by : Place → Bool
  by (Talks y) = is_between c o q.datagram && begins_unknown_id q.datagram.payload
  by _ = false

-- An ERROR 5 had passed between its two ends by then: who sent that has begun anew with the other, it may be, by a request
-- that did not pass where the recording was made.
abbrev pub follows_unknown_id : Placed → List Placed → Bool
follows_unknown_id p older = by p.place where
  by : Place → Bool
  by (Talks x) = list_any (is_unknown_talk x.client (other_of x.client p.datagram)) (line_before x.client p older)
  by _ = false

-- all that a datagram makes doubtful, after those before it
abbrev pub doubts_of : Placed → List Placed → Doubts
doubts_of p older = record {
  may_be_earlier = may_be_earlier p older;
  agrees_late = agrees_late p older;
  rests_on_terms = rests_on_terms p;
  says_unknown_id = says_unknown_id p;
  is_late = is_late p older;
  is_disordered = is_disordered p older;
  is_asked_again = is_asked_again p older;
  may_be_answer_of = may_be_answer_of p older;
  comes_in = comes_in p older;
  goes_on_with_first = goes_on_with_first p older;
  speaks_first = speaks_first p older;
  says_first_word = says_first_word p older;
  follows_unknown_id = follows_unknown_id p older;
  follows_strays = follows_strays p older;
  follows_unanswered = follows_unanswered p older;
  follows_request = follows_request p older;
}
