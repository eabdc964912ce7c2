-- Why a refusal is no accusation: which reasons are told, in their order. Lists of datagrams have the newest first.
use Rattle.std.specs.Prelude.{◌≡◌, ◌&&◌, ◌==◌, not, nat_le, ℕ, Bool, true, false, List, [], ◌∷◌, ◌++◌, Option, Some, None, if◌then◌else◌}
use Rattle.audit_flows.specs.Lines.{Placed, Recorded, begins_error, comes_in, follows_request, follows_strays, follows_unanswered, goes_on_with_first, is_asked_again, is_disordered, is_late, says_first_word}
use Rattle.audit_flows.specs.Transfers.{placed}
use Rattle.audit_flows.specs.Transfers.Doubts.{is_answered_apart, is_beside, some_of, tells_strays}
use Rattle.audit_flows.specs.{V4}
use Rattle.audit_recording.specs.declared.blame.blame.Blamed.{Blamed}
use Rattle.audit_recording.specs.declared.blame.doubted.Doubted.{Doubted}
use Rattle.audit_recording.specs.declared.blame.reason.Reason.{Reason}
use Rattle.audit_recording.specs.declared.blame.reason.Reason.TheVariants.{Disordered, LeftOut, FollowsUnanswered, AskedAgain, AnsweredApart, FollowsStrays, Late, Beside, LedAstray, TurnedAway, UnknownId, FirstWord, OneWay, Twice, Lost, Copied, Damaged, Discarded, Joined}

-- the reason, where it holds
abbrev pub where_so : Reason → Bool → List Reason
where_so reason holds = if holds then reason ∷ [] else []

-- the reason of that frame, where there is one
abbrev pub with_frame : (ℕ → Reason) → Option ℕ → List Reason
with_frame reason None = []
with_frame reason (Some frame) = reason frame ∷ []

-- the frame, unless it comes after that one
abbrev pub up_to : ℕ → Option ℕ → Option ℕ
up_to last None = None
up_to last (Some frame) = if nat_le frame last then Some frame else None

-- Something had come to the client, which never went on with who sent it something first.
abbrev pub is_astray : List Placed → Doubted → Blamed → Bool
is_astray placed d b = b.is_answered && not (some_of d.doubts.number goes_on_with_first placed)

-- by it the client goes on with who sent it something first, and by more than an ERROR
abbrev pub goes_on_by_more : Placed → List Placed → Bool
goes_on_by_more p older = goes_on_with_first p older && not (begins_error p.datagram.payload)

-- The client had asked before, and an ERROR is all that it sent to who sent it something first: that was the late answer to what it had asked
-- before, it may be. Clients refuse such a one by other ERRORs than 5, too.
abbrev pub is_turned_away : List Placed → Doubted → Blamed → Bool
is_turned_away placed d b =
    b.is_answered && some_of d.doubts.number goes_on_with_first placed && some_of d.doubts.number follows_request placed
    && not d.goes_on

-- Nothing came to the client, and it is not its request that is refused.
abbrev pub is_one_way : Doubted → Blamed → Bool
is_one_way d b = d.is_one_way && not (b.frame == d.begins)

-- the reasons of the whole transfer
abbrev pub whole_reasons : List Placed → Doubted → List Reason
whole_reasons placed d =
    where_so Disordered (some_of d.doubts.number is_disordered placed)
    ++ with_frame LeftOut d.left_out
    ++ where_so FollowsUnanswered (some_of d.doubts.number follows_unanswered placed)
    ++ where_so AskedAgain (some_of d.doubts.number is_asked_again placed)
    ++ where_so AnsweredApart (is_answered_apart d.doubts.number placed)
    ++ where_so FollowsStrays (some_of d.doubts.number follows_strays placed)

-- those that come with a frame up to the refused one
abbrev pub frame_reasons : Doubted → Blamed → List Reason
frame_reasons d b =
    with_frame Lost (up_to b.frame d.missing.first)
    ++ with_frame Copied (up_to b.frame d.copied_from)
    ++ with_frame Damaged (up_to b.frame d.damaged)
    ++ with_frame Discarded (up_to b.frame d.discarded)
    ++ with_frame Joined (up_to b.frame d.joined)

-- Why a refusal at that datagram is no accusation, once these datagrams have passed: there is no reason exactly where it is one.
abbrev pub reasons_of : List Placed → Doubted → Blamed → List Reason
reasons_of placed d b =
    whole_reasons placed d
    ++ where_so Late b.is_late
    ++ where_so Beside b.is_beside
    ++ where_so LedAstray (is_astray placed d b)
    ++ where_so TurnedAway (is_turned_away placed d b)
    ++ where_so UnknownId b.tells_strays
    ++ where_so FirstWord b.says_first_word
    ++ where_so OneWay (is_one_way d b)
    ++ where_so Twice d.is_twice
    ++ frame_reasons d b

-- Why a transfer that stops early may have gone on.
abbrev pub missing_reasons : Doubted → List Reason
missing_reasons d = with_frame LeftOut d.left_out ++ with_frame Lost d.missing.within

-- ---- what the division doubts

-- the reason is a doubt of the division: of which transfer a datagram is, and what went before it
abbrev pub is_of_division : Reason → Bool
is_of_division Disordered = true
is_of_division FollowsUnanswered = true
is_of_division AskedAgain = true
is_of_division AnsweredApart = true
is_of_division FollowsStrays = true
is_of_division Late = true
is_of_division Beside = true
is_of_division LedAstray = true
is_of_division UnknownId = true
is_of_division FirstWord = true
is_of_division _ = false

-- What is kept of a refused datagram is so: it is this one of transfer n, after those before it.
pub record IsBlamedAt (b : Blamed) (n : ℕ) (p : Placed) (older : List Placed) : Type 0 where
  pub late : b.is_late ≡ some_of n is_late (p ∷ older)
  pub beside : b.is_beside ≡ is_beside p
  pub answered : b.is_answered ≡ some_of n comes_in (p ∷ older)
  pub strays : b.tells_strays ≡ tells_strays n p older
  pub first : b.says_first_word ≡ some_of n says_first_word (p ∷ older)

-- ---- worked

-- of transfer 0, whose request is in frame 1: whether it was recorded twice or in one direction, and the first frame that is lost
abbrev pub worked_doubted : Bool → Bool → Option ℕ → Doubted
worked_doubted is_twice is_one_way first = record {
  doubts = record {
    number = 0;
    agrees_late = false;
    says_unknown_id = false;
    says_first_word = false;
    is_late = false;
    is_disordered = false;
    is_asked_again = false;
    is_answered_apart = false;
    follows_strays = false;
    follows_unanswered = false;
    follows_request = false;
    comes_in = false;
    goes_on_with_first = false;
  };
  is_twice = is_twice;
  begins = 1;
  is_one_way = is_one_way;
  copied_from = None;
  damaged = None;
  discarded = None;
  joined = None;
  goes_on = false;
  left_out = None;
  missing = record { first = first; within = Some 9 };
}

-- a datagram in this frame, by which its client had asked again or not
abbrev pub worked_blamed : ℕ → Bool → Blamed
worked_blamed frame is_late = record {
  frame = frame;
  is_late = is_late;
  is_beside = false;
  is_answered = false;
  has_gone_on = false;
  speaks_first = false;
  says_first_word = false;
  follows_unknown_id = false;
  tells_strays = false;
  comes_of_earlier = false;
  source = record { port = 2000; address = V4 (192 ∷ 0 ∷ 2 ∷ 1 ∷ []) };
}

-- whether the client of transfer 0 is turned away by these datagrams, at one that comes after an answer
abbrev pub is_turned_away_in : List Recorded → Bool
is_turned_away_in recorded =
    is_turned_away (placed [] recorded) (record (worked_doubted false false None) { goes_on = some_of 0 goes_on_by_more (placed [] recorded) })
    (record (worked_blamed 3 false) { is_answered = true })
