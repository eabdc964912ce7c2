-- What is kept of a transfer beside its judges, and of which datagrams. Lists have the newest first; `whole` are the datagrams of
-- a recording with their places, `frames` the same in their frames.
use Rattle.std.specs.Prelude.{◌≡◌, ◌⊎◌, ◌<◌, ◌+◌, ◌^◌, ◌-◌, ◌&&◌, ◌||◌, ◌++◌, ℕ, Bool, true, false, List, [], ◌∷◌, filter, length, map, max, min, reverse, unwrap_or, IfSome, Option, Some, None, option_map}
use Rattle.std.specs.List.{list_any}
use Rattle.law_end.specs.{Rule}
use Rattle.net_udp.specs.declared.frames.checksum.Checksum.{Checksum}
use Rattle.net_udp.specs.declared.frames.checksum.Checksum.TheVariants.{Absent, Partial, Right, Wrong}
use Rattle.tftp_packet.specs.{Rollover}
use Rattle.law_model.specs.Rules.{first_of}
use Rattle.audit_flows.specs.Lines.{Placed, same_endpoint}
use Rattle.audit_flows.specs.{Transfer}
use Rattle.audit_flows.specs.Transfers.{AreEndsAfter, is_about, opened_it, some_of}
use Rattle.audit_recording.specs.declared.blame.blame.Blame.{Blame}
use Rattle.audit_recording.specs.declared.blame.blame.Blamed.{Blamed}
use Rattle.audit_recording.specs.declared.blame.facts.Found.{Found}
use Rattle.audit_recording.specs.declared.blame.facts.ViewFacts.{ViewFacts}
use Rattle.audit_recording.specs.declared.blame.passed.Passed.{Passed}
use Rattle.audit_recording.specs.declared.blame.passing.Passing.{Passing}
use Rattle.audit_recording.specs.declared.blame.told.Told.{Told}
use Rattle.audit_recording.specs.declared.blame.told.Told.TheVariants.{Accepted, Nothing, Refused}
use Rattle.audit_recording.specs.declared.blame.trail.Trail.{Trail}
use Rattle.audit_recording.specs.declared.judges.judging.Judging.{Judging}
use Rattle.audit_recording.specs.declared.rows.row.Point.{Point}
use Rattle.audit_recording.specs.declared.rows.row.Point.TheVariants.{Client, Server, Between}
use Rattle.audit_recording.specs.Endings.Kept.{IsClosingOf}
use Rattle.audit_recording.specs.Judges.{points_of, rollover_of}
use Rattle.audit_recording.specs.Blame.Frames.{Carried, Framed, framed, is_seen, numbered, seen_of, view_of, whole_of}
use Rattle.audit_recording.specs.Blame.Named.{named_in}
use Rattle.audit_recording.specs.Blame.Several.{is_joined}
use Rattle.audit_recording.specs.Blame.Facts.{IsRefusedAt, blamed_of, has_gone_on, is_for_server}
use Rattle.audit_recording.specs.Reasons.Listed.{goes_on_by_more}
use Rattle.audit_recording.specs.Reasons.Twice.{IsTwiceAfter, Sent, sent}

-- ---- what a judge tells

-- what is seen there stays, whatever comes
abbrev pub IsFixed : Point → ℕ → List Placed → Type 0
IsFixed point n whole = (more : List Placed) (p : Placed) → is_seen point n (more ++ whole) p ≡ is_seen point n whole p

-- The judge at the point has accepted so many: all that was seen there, of which none is refused, whatever comes.
pub record Accepts (rollover : Option Rollover) (point : Point) (x : Transfer) (whole : List Placed) (count : ℕ) : Type 0 where
  pub fixed : IsFixed point x.number whole
  pub all : count ≡ length (filter (is_seen point x.number whole) whole)
  pub none : (more : List Placed) (number : ℕ) (rule : Rule) → IsRefusedAt rollover point x (more ++ whole) number rule → count < number

-- It has refused the one of that number, and refuses no other, whatever comes.
pub record Refuses (rollover : Option Rollover) (point : Point) (x : Transfer) (whole : List Placed) (number : ℕ) : Type 0 where
  pub fixed : IsFixed point x.number whole
  pub rule : Rule
  pub refused : IsRefusedAt rollover point x whole number rule
  pub only : (more : List Placed) (other : ℕ) (by_rule : Rule) → IsRefusedAt rollover point x (more ++ whole) other by_rule → other ≡ number

abbrev pub IsTold : Option Rollover → Point → Transfer → List Placed → Told → Type 0
IsTold rollover point x whole Nothing = Unit {0}
IsTold rollover point x whole (Accepted count) = Accepts rollover point x whole count
IsTold rollover point x whole (Refused number) = Refuses rollover point x whole number

-- ---- the facts of one view

-- a datagram about this transfer, as it is held
abbrev pub passed_of : Transfer → Framed → Passed
passed_of x f = record { blamed = blamed_of x f; place = f.placed.place; target = f.placed.datagram.target }

-- a datagram with its place and its ends, as it is held
abbrev pub placed_by : Passed → Placed
placed_by q = record {
  datagram = record { time = 0; source = q.blamed.source; target = q.target; payload = []; is_spelled = true };
  moment = 0;
  place = q.place;
}

abbrev pub is_about_it : ℕ → Framed → Bool
is_about_it n f = is_about n f.placed

-- the facts of the datagram of that number that was seen there
abbrev pub blamed_in : Point → Transfer → List Placed → List Framed → ℕ → Option Blamed
blamed_in point x whole frames number = option_map (blamed_of x) (numbered (seen_of point x.number whole frames) number)

-- All is held but for the early ones, of which so many were seen there.
pub record IsOpen (forgotten : ℕ) (held : List Passed) (point : Point) (x : Transfer) (whole : List Placed) (frames : List Framed) : Type 0 where
  pub late : List Framed
  pub early : List Framed
  pub split : frames ≡ late ++ early
  pub kept : held ≡ map (passed_of x) (reverse (filter (is_about_it x.number) late))
  pub counted : forgotten ≡ length (seen_of point x.number whole early)
  pub stays : (early ≡ []) ⊎ IsFixed point x.number whole

-- The refused one is kept.
pub record IsFound (found : Found) (point : Point) (x : Transfer) (whole : List Placed) (frames : List Framed) : Type 0 where
  pub is : blamed_in point x whole frames found.number ≡ Some found.blamed
  pub stays : IsFixed point x.number whole

abbrev pub HoldsBy : Option Found → ViewFacts → Point → Transfer → List Placed → List Framed → Type 0
HoldsBy None facts point x whole frames = IsOpen facts.forgotten facts.held.items point x whole frames
HoldsBy (Some found) facts point x whole frames = IsFound found point x whole frames

-- the datagram of that number is held
abbrev pub IsHeldBy : Option Found → ℕ → ℕ → Type 0
IsHeldBy None forgotten number = forgotten < number
IsHeldBy (Some found) forgotten number = number ≡ found.number

abbrev pub IsHeld : ViewFacts → ℕ → Type 0
IsHeld facts number = IsHeldBy facts.refused facts.forgotten number

-- They are the facts of what was seen there, and of each that can be refused there, whatever comes.
pub record AreFactsOf (rollover : Option Rollover) (facts : ViewFacts) (point : Point) (x : Transfer) (whole : List Placed) (frames : List Framed) : Type 0 where
  pub holds : HoldsBy facts.refused facts point x whole frames
  pub enough : (more : List Placed) (number : ℕ) (rule : Rule) → IsRefusedAt rollover point x (more ++ whole) number rule → IsHeld facts number

-- the facts of each end's view where the transfer is judged
pub record IsBlameOf (b : Blame) (judging : Judging) (x : Transfer) (whole : List Placed) (frames : List Framed) : Type 0 where
  pub client : (points_of judging x).client ≡ true → AreFactsOf (rollover_of judging) b.at_client Client x whole frames
  pub server : (points_of judging x).server ≡ true → AreFactsOf (rollover_of judging) b.at_server Server x whole frames

-- the facts of what passed between the ends, where the transfer is judged there
abbrev pub IsBlameBetween : Blame → Judging → Transfer → List Placed → List Framed → Type 0
IsBlameBetween b judging x whole frames = (points_of judging x).between ≡ true → AreFactsOf (rollover_of judging) b.between Between x whole frames

-- ---- a transfer, as far as it was read

-- One of a datagram's checksums is wrong: its host discards it (RFC 1122, sections 3.2.1.2 and 4.1.3.4). One that was left to its sender's
-- network card was made after the recording.
abbrev pub is_wrong : Checksum → Bool
is_wrong Absent = false
is_wrong Right = false
is_wrong Partial = false
is_wrong Wrong = true

-- the datagram in its frame
pub record IsPassing (passing : Passing) (c : Carried) : Type 0 where
  pub frame : passing.frame ≡ c.frame
  pub time : passing.time ≡ c.time
  pub is_doubtful : passing.is_doubtful ≡ c.is_doubtful
  pub has_error : passing.has_error ≡ c.has_error
  pub has_wrong_checksum : passing.has_wrong_checksum ≡ is_wrong c.checksum
  pub is_joined : passing.is_joined ≡ is_joined c.checksum c.datagram.payload
  pub source : passing.source ≡ c.datagram.source
  pub target : passing.target ≡ c.datagram.target
  pub payload : passing.payload.now ≡ c.datagram.payload

-- the frame of the oldest that passes the test
abbrev pub first_frame : (Framed → Bool) → List Framed → Option ℕ
first_frame test frames = option_map (λ f. f.carried.frame) (first_of test frames)

-- the frame of the newest, and else this
abbrev pub last_frame : ℕ → List Framed → ℕ
last_frame otherwise [] = otherwise
last_frame otherwise (f ∷ older) = f.carried.frame

-- the greatest time that their frames tell; 0 where none does
abbrev pub last_time_in : List Framed → ℕ
last_time_in [] = 0
last_time_in (f ∷ older) = max (last_time_in older) (unwrap_or f.carried.time 0)

-- about the transfer, and its frame may be a copy
abbrev pub is_copied : ℕ → Framed → Bool
is_copied n f = is_about n f.placed && f.carried.is_doubtful

-- about the transfer, and received with an error
abbrev pub is_damaged : ℕ → Framed → Bool
is_damaged n f = is_about n f.placed && f.carried.has_error

-- about the transfer, and one of its checksums is wrong
abbrev pub is_spoilt : ℕ → Framed → Bool
is_spoilt n f = is_about n f.placed && is_wrong f.carried.checksum

-- about the transfer, and it may be several
abbrev pub has_several : ℕ → Framed → Bool
has_several n f = is_about n f.placed && is_joined f.carried.checksum f.carried.datagram.payload

-- it came to the client
abbrev pub comes_to : Transfer → Framed → Bool
comes_to x f = same_endpoint f.placed.datagram.target x.client

-- a datagram at its client was noted
pub record IsNoted (old new : Trail) (passing : Passing) : Type 0 where
  pub count : new.count ≡ min (old.count + 1) (2 ^ 64 - 1)
  pub last : new.last ≡ passing.frame
  pub last_time : new.last_time ≡ max old.last_time (unwrap_or passing.time 0)
  pub is_answered : new.is_answered ≡ (same_endpoint passing.target old.transfer.client || old.is_answered)
  pub has_gone_on : new.has_gone_on ≡ ((same_endpoint passing.source old.transfer.client && is_for_server passing.payload.now) || old.has_gone_on)
  pub options : new.options ≡ old.options
  pub transfer : new.transfer ≡ old.transfer
  pub request : new.request ≡ old.request
  pub first : new.first ≡ old.first
  pub ends : new.ends ≡ old.ends
  pub left_out : new.left_out ≡ old.left_out
  pub copied_from : new.copied_from ≡ old.copied_from
  pub damaged : new.damaged ≡ old.damaged
  pub discarded : new.discarded ≡ old.discarded
  pub spoilt : new.spoilt ≡ old.spoilt
  pub joined : new.joined ≡ old.joined
  pub goes_on : new.goes_on ≡ old.goes_on
  pub closing : new.closing ≡ old.closing
  pub blame : new.blame ≡ old.blame

-- as it is compared with its equal
abbrev pub sent_of : Framed → Sent
sent_of f = sent f.carried.datagram.source f.carried.datagram.target f.carried.datagram.payload

-- It is what is to be kept of this transfer by these datagrams, judged at the points where it is to be.
pub record IsTrailOf (t : Trail) (judging : Judging) (x : Transfer) (named : List ℕ) (carried : List Carried) : Type 0 where
  pub transfer : t.transfer ≡ x
  pub number : t.ends.number ≡ x.number
  pub ends : AreEndsAfter t.ends (whole_of named carried)
  pub first : IfSome (first_frame (λ f. opened_it x.number f.placed) (framed named carried)) (λ frame. frame ≡ t.first)
  pub last : t.last ≡ last_frame t.first (view_of Client x.number named carried)
  pub count : t.count ≡ min (length (view_of Client x.number named carried)) (2 ^ 64 - 1)
  pub last_time : t.last_time ≡ last_time_in (view_of Client x.number named carried)
  pub is_answered : t.is_answered ≡ list_any (comes_to x) (view_of Client x.number named carried)
  pub has_gone_on : t.has_gone_on ≡ has_gone_on x (whole_of named carried)
  pub options : t.options ≡ named_in x (whole_of named carried)
  pub twice : IsTwiceAfter t.twice (map sent_of (view_of Client x.number named carried))
  pub copied_from : t.copied_from ≡ first_frame (is_copied x.number) (framed named carried)
  pub damaged : t.damaged ≡ first_frame (is_damaged x.number) (framed named carried)
  pub spoilt : t.spoilt ≡ first_frame (is_spoilt x.number) (framed named carried)
  pub joined : t.joined ≡ first_frame (has_several x.number) (framed named carried)
  pub goes_on : t.goes_on ≡ some_of x.number goes_on_by_more (whole_of named carried)
  pub closing : IsClosingOf t.closing x (view_of Client x.number named carried)
  pub blame : IsBlameOf t.blame judging x (whole_of named carried) (framed named carried)

-- The same of what passed between its ends.
abbrev pub IsTrailBetween : Trail → Judging → Transfer → List ℕ → List Carried → Type 0
IsTrailBetween t judging x named carried = IsBlameBetween t.blame judging x (whole_of named carried) (framed named carried)
