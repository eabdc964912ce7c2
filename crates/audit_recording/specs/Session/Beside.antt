-- What is noted beside the transfers of a recording: datagrams of no client's line, and those that a host discarded. They may have been of a
-- transfer, by their ends and their times. Lists have the newest first.
use Rattle.std.specs.Prelude.{◌≡◌, ◌+◌, ◌*◌, ◌==◌, ◌&&◌, ◌||◌, max, nat_le, ℕ, Bool, true, false, List, [], ◌∷◌, Option, Some, None, IfSome, IsSome, if◌then◌else◌}
use Rattle.std.specs.BTreeMap.{BTreeMap, get}
use Rattle.std.specs.Ordering.{nat_cmp}
use Rattle.law_model.specs.Rules.{or_this}
use Rattle.audit_flows.specs.{Endpoint, Transfer}
use Rattle.audit_flows.specs.Lines.{silence}
use Rattle.audit_flows.specs.Transfers.{client, service}
use Rattle.audit_flows.specs.Transfers.Worked.{server}
use Rattle.audit_recording.specs.Endings.Worked.{asked_first}
use Rattle.audit_recording.specs.Judges.{is_among}
use Rattle.audit_recording.specs.Losses.Kept.{lesser}
use Rattle.audit_recording.specs.Reasons.Unplaced.{Event, IsUnplacedAfter, after, is_it, latest_at, newest_of}
use Rattle.audit_recording.specs.Reasons.Unplaced.Event.{Ends, Opens, Passes}
use Rattle.audit_recording.specs.Session.Discards.{Gone, before_opening, discarding, newest_at}
use Rattle.audit_recording.specs.declared.blame.trail.Trail.{Trail}
use Rattle.audit_recording.specs.declared.session.unplaced.Moment.{Moment}
use Rattle.audit_recording.specs.declared.session.unplaced.Unplaced.{Unplaced}

-- ---- what is noted

-- A request opens a transfer, at this time; a datagram passes at the client of the transfer with this number, at this time, or at 0 where its
-- frame tells none; a datagram of no client's line passes, from here to there, with this payload, in this frame and at this time, and when the
-- recording had reached this moment; a host discards a datagram. Times are in nanoseconds since 1970.
pub data Mark : Type 0 where
  Begins : Transfer → ℕ → Mark
  Joins : ℕ → ℕ → Mark
  Strays : Endpoint → Endpoint → List ℕ → Moment → ℕ → Mark
  Discards : Gone → Mark

-- those of datagrams of no line, and of transfers
abbrev pub events_of : List Mark → List Event
events_of [] = []
events_of (Begins x time ∷ older) = Opens x.client x.number ∷ events_of older
events_of (Joins n time ∷ older) = events_of older
events_of (Strays source target payload m moment ∷ older) = Passes source target payload m ∷ events_of older
events_of (Discards g ∷ older) = events_of older

-- those that were discarded
abbrev pub gone_of : List Mark → List Gone
gone_of [] = []
gone_of (Begins x time ∷ older) = gone_of older
gone_of (Joins n time ∷ older) = gone_of older
gone_of (Strays source target payload m moment ∷ older) = gone_of older
gone_of (Discards g ∷ older) = g ∷ gone_of older

-- the greatest time of what passed at the client of the transfer with this number, since its request; 0 where none is told
abbrev pub last_time_of : ℕ → List Mark → ℕ
last_time_of n [] = 0
last_time_of n (Begins x time ∷ older) = if x.number == n then 0 else last_time_of n older
last_time_of n (Joins m time ∷ older) = if m == n then max (last_time_of n older) time else last_time_of n older
last_time_of n (Strays source target payload m moment ∷ older) = last_time_of n older
last_time_of n (Discards g ∷ older) = last_time_of n older

-- ---- what may have been of a transfer, which has this number

-- one of these two ends is its client's, which has opened no other since
abbrev pub is_newest_at : ℕ → Endpoint → Endpoint → List Mark → Bool
is_newest_at n source target older = is_it n (newest_of source (events_of older)) || is_it n (newest_of target (events_of older))

-- The frame of the first datagram of no client's line that may have been of it: one that passed before its request, and has a later time; or
-- one that passed at most 300 s after its last datagram, while it was its client's newest.
abbrev pub left_out_of : ℕ → List Mark → Option ℕ
left_out_of n [] = None
left_out_of n (Begins x time ∷ older) = if x.number == n then after time (latest_at x.client (events_of older)) else left_out_of n older
left_out_of n (Joins m time ∷ older) = left_out_of n older
left_out_of n (Strays source target payload m moment ∷ older) =
    or_this (left_out_of n older) (is_newest_at n source target older && nat_le moment (last_time_of n older + silence)) m.frame
left_out_of n (Discards g ∷ older) = left_out_of n older

-- The least frame of a datagram that was discarded, and may have been of it: the newest one at its client that came at most 300 s before its
-- request; or one that came while it was its client's newest.
abbrev pub discarded_beside : ℕ → List Mark → Option ℕ
discarded_beside n [] = None
discarded_beside n (Begins x time ∷ older) = if x.number == n then before_opening time (newest_at x.client (gone_of older)) else discarded_beside n older
discarded_beside n (Joins m time ∷ older) = discarded_beside n older
discarded_beside n (Strays source target payload m moment ∷ older) = discarded_beside n older
discarded_beside n (Discards g ∷ older) =
    if is_newest_at n g.source g.target older then lesser (discarded_beside n older) (Some g.frame) else discarded_beside n older

-- ---- one more at a trail

-- this frame was left out, unless an earlier one is noted
abbrev pub leaving_out : ℕ → Trail → Trail
leaving_out frame t = record t { left_out = or_this t.left_out true frame }

-- the same where it is that transfer's, and this moment is within its time
abbrev pub leaving_out_if : Bool → ℕ → ℕ → Trail → Trail
leaving_out_if here frame moment t = if here && nat_le moment (t.last_time + silence) then leaving_out frame t else t

abbrev pub leaving_out_some : Option ℕ → Trail → Trail
leaving_out_some None t = t
leaving_out_some (Some frame) t = leaving_out frame t

-- this frame was discarded, where it is that transfer's
abbrev pub discarding_if : Bool → ℕ → Trail → Trail
discarding_if here frame t = if here then discarding (Some frame) t else t

-- ---- what is kept

-- the history without what has ended
abbrev pub without_ends : List Event → List Event
without_ends [] = []
without_ends (Passes source target payload m ∷ older) = Passes source target payload m ∷ without_ends older
without_ends (Opens c number ∷ older) = Opens c number ∷ without_ends older
without_ends (Ends c number ∷ older) = without_ends older

-- what has ended is among these
abbrev pub HaveEnded : List ℕ → List Event → Type 0
HaveEnded out [] = Unit {0}
HaveEnded out (Passes source target payload m ∷ older) = HaveEnded out older
HaveEnded out (Opens c number ∷ older) = HaveEnded out older
HaveEnded out (Ends c number ∷ older) = (is_among number out ≡ true) × HaveEnded out older

-- The trail tells what may have been of its transfer, which has this number.
pub record IsMarkedBy (n : ℕ) (marks : List Mark) (t : Trail) : Type 0 where
  pub number : t.transfer.number ≡ n
  pub last_time : t.last_time ≡ last_time_of n marks
  pub left_out : t.left_out ≡ left_out_of n marks
  pub discarded : t.discarded ≡ discarded_beside n marks

-- Each trail does; and what is kept of datagrams of no line stands for those that were noted, but that the transfers with these numbers have
-- ended, of which no trail is kept.
pub record AreMarksKept (unplaced : Unplaced) (trails : BTreeMap ℕ Trail) (out : List ℕ) (marks : List Mark) : Type 0 where
  pub history : List Event
  pub stands : IsUnplacedAfter unplaced history
  pub noted : without_ends history ≡ events_of marks
  pub ended : HaveEnded out history
  pub still : (n : ℕ) → IsSome (get nat_cmp trails n) → is_among n out ≡ false
  pub marked : (n : ℕ) → IfSome (get nat_cmp trails n) (IsMarkedBy n marks)

-- ---- worked

-- a datagram of no client's line that the server sends to the client, in this frame and at this second
abbrev pub apart_at : ℕ → ℕ → Mark
apart_at frame seconds =
    Strays server client (0 ∷ 4 ∷ 0 ∷ 1 ∷ []) (record { frame = frame; time = seconds * 1000000000 }) (seconds * 1000000000)

-- one that the client sends to the service port, and that is discarded
abbrev pub gone_at : ℕ → ℕ → Mark
gone_at frame seconds = Discards (record { source = client; target = service; frame = frame; time = seconds * 1000000000 })

-- transfer 0 begins at second 10, and goes on at second 20
abbrev pub worked_marks : List Mark
worked_marks = Joins 0 20000000000 ∷ Joins 0 10000000000 ∷ Begins asked_first 10000000000 ∷ []

-- its client asks again at second 30, and transfer 3 begins
abbrev pub asked_next : Mark
asked_next = Begins (record asked_first { number = 3 }) 30000000000
