-- What one pass keeps of the datagrams before, of each client's line.
use Rattle.std.specs.Prelude.{◌≡◌, ℕ, ◌+◌, ◌==◌, ◌&&◌, ◌||◌, not, nat_le, nat_lt, Bool, true, false, List, [], Option, Some, None, IsSomeAnd, option_map, if◌then◌else◌}
use Rattle.std.specs.Str.{bytes_eq}
use Rattle.std.specs.BTreeMap.{get, BTreeMap}
use Rattle.std.specs.List.{list_any}
use Rattle.std.specs.Ordering.{nat_cmp}
use Rattle.audit_flows.specs.declared.lines.endpoint.Endpoint.{Endpoint}
use Rattle.audit_flows.specs.declared.lines.place.Place.{Place}
use Rattle.audit_flows.specs.declared.lines.place.Place.TheVariants.{Repeats, Talks, Apart}
use Rattle.audit_flows.specs.declared.lines.place.Transfer.{Transfer}
use Rattle.audit_flows.specs.declared.lines.kind.Kind.{Kind}
use Rattle.audit_flows.specs.declared.lines.kind.Seen.{Seen}
use Rattle.audit_flows.specs.declared.lines.line.Line.{Line}
use Rattle.audit_flows.specs.declared.lines.line.Talk.{Talk}
use Rattle.audit_flows.specs.declared.lines.line.Talked.{Talked}
use Rattle.audit_flows.specs.declared.lines.history.History.{History}
use Rattle.audit_flows.specs.declared.lines.history.Progress.{Progress}
use Rattle.audit_flows.specs.Lines.Recording.{Recorded, same_endpoint, endpoint_cmp, asked_part, begins_request, begins_error, begins_oack, begins_packet, begins_unknown_id, refuses, same_address, is_ack, is_ack_0, is_block, is_data_1, is_answer, number_of, passes_in}
use Rattle.audit_flows.specs.Lines.Places.{Placed, is_request, newest_of, clock, live, line, reach, latest_in, answered_in, opened_by, talk_in, place_asked}
use Rattle.audit_flows.specs.Lines.Doubting.{acked_0_in, answers_surely, before_talk, is_talk, is_unknown_talk, is_word, leaves_unanswered, may_follow, says_more, is_alike_in, is_later}

-- what is looked at of a payload
abbrev pub kind_of : List ℕ → Kind
kind_of payload = record {
  begins_request = begins_request payload;
  begins_error = begins_error payload;
  begins_packet = begins_packet payload;
  begins_unknown_id = begins_unknown_id payload;
  refuses = refuses payload;
  is_ack_0 = is_ack_0 payload;
  is_data_1 = is_data_1 payload;
  is_answer = is_answer payload;
  begins_oack = begins_oack payload;
  is_block = is_block payload;
  is_ack = is_ack payload;
  number = number_of payload;
}

-- and of a datagram, but for its payload itself
abbrev pub seen_of : Recorded → Seen
seen_of d = record { source = d.source; target = d.target; time = d.time; kind = kind_of d.payload }

-- the end of the datagram that is not this client's
abbrev pub other_end : Endpoint → Seen → Endpoint
other_end c s = if same_endpoint s.source c then s.target else s.source

-- ---- what the two ends of a talk said before

-- the number is the next at the most
abbrev pub is_reached : ℕ → Option ℕ → Bool
is_reached number None = false
is_reached number (Some far) = nat_le number (far + 1)

-- such a payload may be of a transfer that has come so far
abbrev pub is_within : Progress → Bool → List ℕ → Bool
is_within progress is_client payload =
    (passes_in true is_client payload && is_reached (number_of payload) progress.writes)
    || (passes_in false is_client payload && is_reached (number_of payload) progress.reads)

-- by the whole history
abbrev pub all_by : Option History → Bool → List ℕ → Bool
all_by None is_client payload = false
all_by (Some h) is_client payload = is_within h.whole is_client payload

-- and by that before this transfer
abbrev pub up_to : ℕ → Option History → Bool → List ℕ → Bool
up_to n None is_client payload = false
up_to n (Some h) is_client payload = if h.number == n then is_within h.before is_client payload else is_within h.whole is_client payload

-- It tells of the line what may be late, in a transfer of its number and in any other.
pub record TellsOf (c o : Endpoint) (line : List Placed) (h : History) : Type 0 where
  pub whole : (is_client : Bool) (payload : List ℕ) → list_any (may_follow c o is_client payload) line ≡ is_within h.whole is_client payload
  pub before : (is_client : Bool) (payload : List ℕ)
      → list_any (may_follow c o is_client payload) (before_talk c o h.number line) ≡ is_within h.before is_client payload
  pub others : (n : ℕ) → (h.number == n) ≡ false → (is_client : Bool) (payload : List ℕ)
      → list_any (may_follow c o is_client payload) (before_talk c o n line) ≡ is_within h.whole is_client payload

-- none is kept only where the two have not talked
abbrev pub IsHistoryOf : Endpoint → Endpoint → List Placed → Option History → Type 0
IsHistoryOf c o line None = list_any (is_talk c o) line ≡ false
IsHistoryOf c o line (Some h) = TellsOf c o line h

-- the number of a datagram, or of all that a transfer may have come to
abbrev pub far_by : Transfer → ℕ → ℕ
far_by x number = if x.has_window then 65535 else number

-- whether a file is written by a datagram of this transfer between the client and another
abbrev pub writes_in : Endpoint → Transfer → Seen → Bool
writes_in c x s = if s.kind.is_block then same_endpoint s.source c else (if s.kind.is_ack then not (same_endpoint s.source c) else x.writes)

-- how far all came, with a datagram more of this side, which came so far
abbrev pub IsFurther : Bool → ℕ → (Bool → List ℕ → Bool) → Progress → Type 0
IsFurther writes far before progress = (is_client : Bool) (payload : List ℕ) → is_within progress is_client payload
    ≡ ((passes_in writes is_client payload && nat_le (number_of payload) (far + 1)) || before is_client payload)

-- the history after a datagram of this transfer, of this side and with this number
pub record IsNextHistory (old : Option History) (x : Transfer) (writes : Bool) (number : ℕ) (h : History) : Type 0 where
  pub talked : h.number ≡ x.number
  pub whole : IsFurther writes (far_by x number) (all_by old) h.whole
  pub before : (is_client : Bool) (payload : List ℕ) → is_within h.before is_client payload ≡ up_to x.number old is_client payload

-- after a datagram of this transfer, or of none
abbrev pub IsHistoryAfter : Option History → Option History → Endpoint → Option Transfer → Seen → Type 0
IsHistoryAfter old new c None s = new ≡ old
IsHistoryAfter old new c (Some x) s = IsSomeAnd new (IsNextHistory old x (writes_in c x s) s.kind.number)

abbrev pub history_of : Option Talked → Option History
history_of None = None
history_of (Some talked) = talked.history

-- whether ERROR 5 has passed between the two
abbrev pub unknown_of : Option Talked → Bool
unknown_of None = false
unknown_of (Some talked) = talked.says_unknown_id

-- after a datagram of this transfer, or of none
abbrev pub unknown_after : Option Transfer → Seen → Bool → Bool
unknown_after None s before = before
unknown_after (Some x) s before = s.kind.begins_unknown_id || before

-- whether something else has passed between the two than requests, ERROR 0 and ERROR 5
abbrev pub spoken_of : Option Talked → Bool
spoken_of None = false
spoken_of (Some talked) = talked.has_spoken

-- after one datagram more that is no request
abbrev pub spoken_after : Seen → Bool → Bool
spoken_after s before = (not s.kind.begins_error || s.kind.refuses) || before

-- ---- a line

-- where a request goes, by what the line keeps
abbrev pub asked_by : Line → ℕ → Recorded → Place
asked_by l number d =
    if l.ends_in_request && bytes_eq l.request.items d.payload && same_endpoint l.latest.asked d.target then Repeats l.latest
    else opened_by number d

abbrev pub is_past : ℕ → Option ℕ → Bool
is_past time None = false
is_past time (Some newest) = nat_lt time newest

-- It stands for these datagrams of a client's line.
pub record IsLineOf (l : Line) (line : List Placed) : Type 0 where
  pub latest : latest_in line ≡ Some l.latest
  pub answered : answered_in l.latest line ≡ l.answered
  pub moment : clock line ≡ l.moment
  pub asked : (number : ℕ) (d : Recorded) → d.source ≡ l.latest.client → place_asked number d line ≡ asked_by l number d
  pub talks : (o : Endpoint) → option_map (λ t. t.talk) (get endpoint_cmp l.talks o) ≡ talk_in l.latest.client o line
  pub histories : (o : Endpoint) → IsHistoryOf l.latest.client o line (history_of (get endpoint_cmp l.talks o))
  pub unknown : (o : Endpoint) → list_any (is_unknown_talk l.latest.client o) line ≡ unknown_of (get endpoint_cmp l.talks o)
  pub again : (d : Recorded) → d.source ≡ l.latest.client
      → is_alike_in d (newest_of is_request line) ≡ (bytes_eq (asked_part l.request.items) (asked_part d.payload) && same_endpoint l.latest.asked d.target)
  pub spoken : (o : Endpoint) → list_any (is_word l.latest.client o) line ≡ spoken_of (get endpoint_cmp l.talks o)
  pub went_on : list_any says_more (reach line) ≡ l.went_on
  pub surely : list_any (answers_surely l.latest.number) (reach line) ≡ l.is_answered
  pub left : leaves_unanswered line ≡ l.left_unanswered
  pub newest : (n time : ℕ) → list_any (is_later n time) line ≡ is_past time (get nat_cmp l.newest n)

-- ---- one datagram more, which is no request

abbrev pub place_of_talk : Endpoint → Option Transfer → Place
place_of_talk c None = Apart c
place_of_talk c (Some x) = Talks x

-- it comes to the client, in this transfer
abbrev pub comes_to : Transfer → Option Transfer → Seen → Bool
comes_to x None s = false
comes_to x (Some y) s = (y.number == x.number) && same_endpoint s.target x.client

-- the talk after it
abbrev pub talk_after : Endpoint → Endpoint → Option Transfer → Seen → Option Talk → Talk
talk_after c o talked s old = record {
  transfer = talked;
  acked_0 = if same_endpoint s.source c && same_endpoint s.target o then s.kind.is_ack_0 else acked_0_in old;
}

-- the line ends in a request, if it did and what comes is apart
abbrev pub ends_after : Option Transfer → Bool → Bool
ends_after None ended = ended
ends_after (Some x) ended = false

-- the client has sent what is no request and no ERROR
abbrev pub went_on_after : Option Transfer → Seen → Bool → Bool
went_on_after None s before = before
went_on_after (Some x) s before = (same_endpoint s.source x.client && not s.kind.begins_error) || before

-- the host that was asked refuses the transfer's request
abbrev pub refuses_to : Transfer → Seen → Bool
refuses_to x s = same_endpoint s.target x.client && same_address s.source.address x.asked.address && s.kind.refuses

-- the transfer with this number has been answered for sure
abbrev pub surely_after : ℕ → Option Transfer → Seen → Bool → Bool
surely_after n None s before = before
surely_after n (Some x) s before = (((same_endpoint s.source x.client && not s.kind.begins_error) || refuses_to x s) && (x.number == n)) || before

-- the times after a datagram of this transfer passed at this one
abbrev pub IsTimed : BTreeMap ℕ ℕ → BTreeMap ℕ ℕ → ℕ → ℕ → Type 0
IsTimed old new number at =
    (n time : ℕ) → is_past time (get nat_cmp new n) ≡ (((number == n) && nat_lt time at) || is_past time (get nat_cmp old n))

abbrev pub AreTimed : BTreeMap ℕ ℕ → BTreeMap ℕ ℕ → Option Transfer → ℕ → Type 0
AreTimed old new None at = new ≡ old
AreTimed old new (Some x) at = IsTimed old new x.number at

-- the datagram is this transfer's request, with this payload and time
pub record IsRequestOf (x : Transfer) (payload : List ℕ) (time : ℕ) (d : Recorded) : Type 0 where
  pub source : d.source ≡ x.client
  pub target : d.target ≡ x.asked
  pub same : d.payload ≡ payload
  pub passed : d.time ≡ time

-- ---- all lines

-- What is kept of a client's line stands for it. None is kept only where it has been silent.
abbrev pub IsLineKept : Endpoint → List Placed → Option Line → Type 0
IsLineKept c older None = live (clock older) (line c older) ≡ []
IsLineKept c older (Some l) = (l.latest.client ≡ c) × IsLineOf l (line c older)

-- what is kept of all clients' lines
abbrev pub AreLinesOf : BTreeMap Endpoint Line → List Placed → Type 0
AreLinesOf lines older = (c : Endpoint) → IsLineKept c older (get endpoint_cmp lines c)
