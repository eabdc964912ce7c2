-- What is told of a whole recording: the rows of its transfers, each once. Lists of what a recording has, and of the transfers that were told,
-- have the newest first; rows stand in the order in which they are told.
use Rattle.std.specs.Prelude.{◌≡◌, ◌⊎◌, ◌<◌, ◌≤◌, ◌^◌, ◌-◌, ◌++◌, ℕ, Bool, true, false, List, [], ◌∷◌, length, max, min, IfSome, IsSome, Option, Some, None}
use Rattle.std.specs.Io.KnownBytes.{Consumes, IsAtEnd}
use Rattle.std.specs.List.{AllByRecursion}
use Rattle.net_pcap.specs.{BeginsAsClassic}
use Rattle.net_streams.specs.{Standing}
use Rattle.net_udp.specs.Recording.{RecordingState, StandsFor, Step, standing_of}
use Rattle.audit_flows.specs.{Transfer}
use Rattle.audit_recording.specs.Blame.Frames.{Carried, whole_of}
use Rattle.audit_recording.specs.Judges.{is_among, opened}
use Rattle.audit_recording.specs.Losses.Noted.{Event, IsFirst, IsMissingOf, IsTold, Since, is_soon}
use Rattle.audit_recording.specs.Reasons.Clock.{last_of}
use Rattle.audit_recording.specs.Reasons.Listed.{up_to}
use Rattle.audit_recording.specs.Session.Beside.{IsMarkedBy, Mark, discarded_beside, left_out_of}
use Rattle.audit_recording.specs.Session.Heard.{IsUndeliveredOf}
use Rattle.audit_recording.specs.Session.Kept.{IsSessionAfter}
use Rattle.audit_recording.specs.Session.Noted.{AreNotesOf, Noticed, frames_in, giving_up, stretch_of}
use Rattle.audit_recording.specs.Session.Opened.{BeginsWith, HasEnded, IsSessionClosed, lost_in}
use Rattle.audit_recording.specs.Session.Over.{IsOver}
use Rattle.audit_recording.specs.Session.Recording.{IsNoticedOf, reached_by}
use Rattle.audit_recording.specs.declared.blame.missing.Missing.{Missing}
use Rattle.audit_recording.specs.declared.blame.trail.Trail.{Trail}
use Rattle.audit_recording.specs.declared.judges.judging.Judging.{Judging}
use Rattle.audit_recording.specs.declared.rows.row.Row.{Row}
use Rattle.audit_recording.specs.declared.session.notes.Notes.{Notes}
use Rattle.audit_recording.specs.declared.session.session.Session.{Session}
use Rattle.audit_rows.specs.{IsJudgedOf}
use Rattle.audit_rows.specs.declared.judged.Judged.{Judged}
use Rattle.tftp_rows.specs.Printing.{PrintsAll, PrintsPart, verdict_lines}
use Rattle.tftp_rows.specs.Telling.{AreRowsAt, AreRowsWith, IsNext, PrintsAllWith, PrintsPartWith, RefuseNothing, places_of, worst_at}
use Rattle.tftp_rows.specs.declared.row.VerdictRow.{VerdictRow}
use Rattle.tftp_rows.specs.declared.teller.Teller.{Teller}

-- ---- as far as it was read

-- the first frames of a recording, the datagrams that they carried, and what was noticed by then
pub record Part : Type 0 where
  pub history : List Step
  pub carried : List Carried
  pub noticed : Noticed

abbrev pub so_far : List Step → List Carried → Noticed → Part
so_far history carried s = record { history = history; carried = carried; noticed = s }

-- The one begins with the frames and the datagrams of the other.
pub record IsPartOf (part whole : Part) : Type 0 where
  pub next_frames : List Step
  pub next_carried : List Carried
  pub frames : whole.history ≡ next_frames ++ part.history
  pub datagrams : whole.carried ≡ next_carried ++ part.carried

-- the recording is read no further: the fragments that still wait have waited in vain
abbrev pub once_ended : RecordingState → Part → Part
once_ended recording p = record p { noticed = giving_up (frames_in recording.waiting) p.noticed }

-- By these frames these datagrams came, and by then the transfer was over, so that nothing that comes later changes what is told of it; or
-- the recording has ended so.
abbrev pub IsDue : Option Part → List ℕ → Part → Trail → Type 0
IsDue end named p t = (IsNoticedOf named p.history p.carried p.noticed × IsOver t named p.carried p.noticed) ⊎ (end ≡ Some p)

-- They are the frames that may have been of the transfer's client, and were not there whole by then: the first one, and the one that is
-- told of those that stand among its datagrams or passed soon after.
pub record AreMissing (m : Missing) (t : Trail) (s : Noticed) : Type 0 where
  pub first : IsFirst (IsMissingOf t.transfer.client.address s.events) m.first
  pub within : IsTold (Since (IsMissingOf t.transfer.client.address s.events) (stretch_of t)) (stretch_of t) m.within

-- the moment up to which it was read: the time of its last datagram, or a later one that two in a row have reached
abbrev pub moment_of : Noticed → ℕ
moment_of s = max (last_of s.times) (reached_by s.times)

-- ---- the transfers that were told

-- a transfer, what there was to say of it, and its rows
pub record Telling : Type 0 where
  pub transfer : Transfer
  pub judged : Judged
  pub rows : List VerdictRow

abbrev pub numbers_of : List Telling → List ℕ
numbers_of [] = []
numbers_of (t ∷ older) = t.transfer.number ∷ numbers_of older

-- how many these are, as 64 bits count them
abbrev pub counted : List Telling → ℕ
counted tellings = min (length tellings) (2 ^ 64 - 1)

-- By this part of the recording it is the next transfer behind the older ones, and all is known of it. What there is to say of it is what the
-- part says, with what may be missing of it, with what was left out or discarded that may have been of it, and with what did not arrive of it;
-- and the rows are those of all its verdicts.
pub record IsToldNext (name : List ℕ) (judging : Judging) (named : List ℕ) (end : Option Part) (p : Part) (t : Telling) (older : List Telling) : Type 0 where
  pub next : IsNext t.transfer named (numbers_of older) p.carried
  pub due : IsDue end named p t.judged.trail
  pub of : IsJudgedOf t.judged judging t.transfer named p.carried
  pub missing : AreMissing t.judged.doubted.missing t.judged.trail p.noticed
  pub beside : IsMarkedBy t.transfer.number p.noticed.beside t.judged.trail
  pub undelivered : IsUndeliveredOf t.judged.trail.undelivered t.transfer named p.history p.carried
  pub until : t.judged.until ≡ moment_of p.noticed
  pub rows : AreRowsAt name (counted (t ∷ older)) t.judged (places_of t.judged) t.rows

-- By these datagrams it is the next transfer behind the older ones, and the rows are those of its first verdicts.
pub record IsToldPart (name : List ℕ) (judging : Judging) (named : List ℕ) (carried : List Carried) (t : Telling) (older : List Telling) : Type 0 where
  pub next : IsNext t.transfer named (numbers_of older) carried
  pub of : IsJudgedOf t.judged judging t.transfer named carried
  pub first : List Row
  pub others : List Row
  pub places : places_of t.judged ≡ first ++ others
  pub rows : AreRowsAt name (counted (t ∷ older)) t.judged first t.rows

-- they are the rows of a transfer that was told in part behind the older ones, or there are none
abbrev pub AreRowsInPart : List ℕ → Judging → List ℕ → List Carried → List Telling → List VerdictRow → Type 0
AreRowsInPart name judging named carried older rows = (rows ≡ []) ⊎ ((t : Telling) × (rows ≡ t.rows) × IsToldPart name judging named carried t older)

-- each was the next one, and all was known of it, by what had been read when it was told: a part of all
abbrev pub AreTold : List ℕ → Judging → List ℕ → Option Part → Part → List Telling → Type 0
AreTold name judging named end all [] = Unit {0}
AreTold name judging named end all (t ∷ older) =
    (p : Part) × IsPartOf p all × IsToldNext name judging named end p t older × AreTold name judging named end p older

-- the rows of all of them
abbrev pub all_rows : List Telling → List VerdictRow
all_rows [] = []
all_rows (t ∷ older) = all_rows older ++ t.rows

-- the greatest status of all their verdicts
abbrev pub worst_of : List Telling → ℕ
worst_of [] = 0
worst_of (t ∷ older) = max (worst_of older) (worst_at t.judged (places_of t.judged))

-- each has a greater number than those before it: its request came later
abbrev pub AreInOrder : List Telling → Type 0
AreInOrder [] = Unit {0}
AreInOrder (t ∷ older) = AllByRecursion (λ n. n < t.transfer.number) (numbers_of older) × AreInOrder older

-- Each is what these datagrams say: it is one of their transfers, and the rows are those of its verdicts by all of them.
abbrev pub AreOf : List ℕ → Judging → List ℕ → List Carried → List Telling → Type 0
AreOf name judging named carried [] = Unit {0}
AreOf name judging named carried (t ∷ older) =
    (opened t.transfer.number (whole_of named carried) ≡ Some t.transfer) × IsJudgedOf t.judged judging t.transfer named carried
    × AreRowsAt name (counted (t ∷ older)) t.judged (places_of t.judged) t.rows × AreOf name judging named carried older

-- Of each: where by these events a frame may have been of its client, was not there whole, and stands among its datagrams or passed at most
-- 300 s after the last, such a frame is told, that one or an earlier one.
abbrev pub AreLacking : List Event → List Telling → Type 0
AreLacking events [] = Unit {0}
AreLacking events (t ∷ older) =
    ((n time : ℕ) → IsMissingOf t.transfer.client.address events n time → is_soon (stretch_of t.judged.trail) n time ≡ true
    → (first : ℕ) × (t.judged.doubted.missing.first ≡ Some first) × (first ≤ n)) × AreLacking events older

-- By these marks: the frame that is told as left out is the one that was, and so is the one that was discarded, of those up to its last frame.
pub record IsBesideTold (marks : List Mark) (t : Telling) : Type 0 where
  pub left_out : t.judged.trail.left_out ≡ left_out_of t.transfer.number marks
  pub discarded : (frame : ℕ) → frame ≤ t.judged.trail.last → up_to frame t.judged.trail.discarded ≡ up_to frame (discarded_beside t.transfer.number marks)

-- so of each
abbrev pub AreBeside : List Mark → List Telling → Type 0
AreBeside marks tellings = AllByRecursion (IsBesideTold marks) tellings

-- ---- what was read of a file, whose bytes are told or not

-- The file had these bytes, whose frames these are, and what is left: nothing, where it was read to its end.
pub record IsFileRead (file : Option (List ℕ)) (recording : RecordingState) (history : List Step) : Type 0 where
  pub bytes : List ℕ
  pub left : Option (List ℕ)
  pub had : Consumes file left bytes
  pub frames : StandsFor recording bytes history
  pub at_end : standing_of recording ≡ Standing.Over → IsAtEnd left

-- it was read to its end, or to a fault, and this is what was read by then
abbrev pub IsEndOf : Option (List ℕ) → Part → Part → Type 0
IsEndOf file all end =
    (recording : RecordingState) × IsFileRead file recording all.history × (standing_of recording ≡ Standing.Open → ⊥) × (end ≡ once_ended recording all)

-- it begins with these frames, or none was read
abbrev pub WereRead : Option (List ℕ) → List Step → Type 0
WereRead file history = (history ≡ []) ⊎ BeginsWith file history

-- it begins as a classic recording does, which tells of no lost packets
abbrev pub IsClassic : Option (List ℕ) → Type 0
IsClassic file = (bytes : List ℕ) × (left : Option (List ℕ)) × Consumes file left bytes × BeginsAsClassic bytes

-- ---- what was printed of them

module _ {W : Type 0} (contents : W → Option (List ℕ)) where
  -- Since the file was begun these transfers were told, each once it was over: their rows were printed, each once and in order, but for the
  -- last ones, which wait. While the recorder may yet tell that it lost packets, none was printed that refuses a datagram.
  pub record HasTold (begun now : Teller W) (lose : Bool) (judging : Judging) (named : List ℕ) (all : Part) (tellings : List Telling) : Type 0 where
    pub told : AreTold begun.file.now judging named None all tellings
    pub printed : List VerdictRow
    pub rows : all_rows tellings ≡ printed ++ now.held.items
    pub prints : PrintsAllWith contents begun.dropped begun.printer now.printer printed
    pub file : now.file ≡ begun.file
    pub number : now.told ≡ counted tellings
    pub status : now.status ≡ max begun.status (worst_of tellings)
    pub dropped : now.dropped ≡ begun.dropped
    pub calm : lose ≡ true → RefuseNothing printed

  -- The same where none waits, and the recording may have ended: the first rows were printed as they are where nothing is known to be lost,
  -- and the last ones as they are where the recorder lost so many packets.
  pub record HasToldAll (begun now : Teller W) (lose : Bool) (dropped : ℕ) (judging : Judging) (named : List ℕ) (end : Option Part) (all : Part) (tellings : List Telling) : Type 0 where
    pub told : AreTold begun.file.now judging named end all tellings
    pub early : List VerdictRow
    pub late : List VerdictRow
    pub rows : all_rows tellings ≡ early ++ late
    pub first : List VerdictRow
    pub last : List VerdictRow
    pub are_first : AreRowsWith begun.dropped early first
    pub are_last : AreRowsWith dropped late last
    pub prints : PrintsAll contents verdict_lines begun.printer now.printer (first ++ last)
    pub none_waits : now.held.items ≡ []
    pub may_lose : now.may_lose ≡ false
    pub file : now.file ≡ begun.file
    pub number : now.told ≡ counted tellings
    pub status : now.status ≡ max begun.status (worst_of tellings)
    pub dropped_now : now.dropped ≡ dropped
    pub calm : lose ≡ true → RefuseNothing early

  -- A call has failed: the first rows of these transfers, and of one that was told in part, were printed, each once and in order, and nothing else:
  -- whole, and then those that wait come next; or in part, and none waits. While the recorder may yet tell that it lost packets, none was
  -- printed that refuses a datagram.
  pub record HasToldPart (begun now : Teller W) (lose : Bool) (judging : Judging) (named : List ℕ) (all : Part) (tellings : List Telling) : Type 0 where
    pub told : AreTold begun.file.now judging named None all tellings
    pub next : List VerdictRow
    pub are_next : AreRowsInPart begun.file.now judging named all.carried tellings next
    pub printed : List VerdictRow
    pub left : List VerdictRow
    pub rows : all_rows tellings ++ next ≡ printed ++ (now.held.items ++ left)
    pub prints : PrintsAllWith contents begun.dropped begun.printer now.printer printed ⊎ (PrintsPartWith contents begun.dropped begun.printer now.printer printed × (now.held.items ≡ []))
    pub calm : lose ≡ true → RefuseNothing printed

  -- The same where none waits: what was held back was printed as it is where the recorder lost so many packets.
  pub record HasToldInPart (begun now : Teller W) (lose : Bool) (dropped : ℕ) (judging : Judging) (named : List ℕ) (end : Option Part) (all : Part) (tellings : List Telling) : Type 0 where
    pub told : AreTold begun.file.now judging named end all tellings
    pub next : List VerdictRow
    pub are_next : AreRowsInPart begun.file.now judging named all.carried tellings next
    pub early : List VerdictRow
    pub late : List VerdictRow
    pub left : List VerdictRow
    pub rows : all_rows tellings ++ next ≡ early ++ (late ++ left)
    pub first : List VerdictRow
    pub last : List VerdictRow
    pub are_first : AreRowsWith begun.dropped early first
    pub are_last : AreRowsWith dropped late last
    pub prints : PrintsPart contents verdict_lines begun.printer now.printer (first ++ last)
    pub none_waits : now.held.items ≡ []
    pub calm : lose ≡ true → RefuseNothing early

  -- ---- while it is read

  -- These frames were read, as `Read` says, the session is the one after them, and of their transfers these were told, since the file was begun,
  -- and handed out.
  pub record IsReadAndTold (begun now : Teller W) (lose : Bool) (Read : List Step → Type 0) (session : Session) (named : List ℕ) (history : List Step) (carried : List Carried) (s : Noticed) (tellings : List Telling) : Type 0 where
    pub read : Read history
    pub session_is : IsSessionAfter session named (numbers_of tellings) history carried s
    pub has_told : HasTold begun now lose session.audit.judge.judging named (so_far history carried s) tellings

  -- the same of whatever was read and told
  abbrev pub IsReadOn : Teller W → Teller W → Bool → (List Step → Type 0) → Session → List ℕ → Type 0
  IsReadOn begun now lose Read session named =
      (history : List Step) × (carried : List Carried) × (s : Noticed) × (tellings : List Telling) × IsReadAndTold begun now lose Read session named history carried s tellings

  -- The file was read to its end, or to a fault that is noted, and the session is closed: of their transfers these were told, since the file was begun,
  -- and handed out.
  pub record IsReadThrough (begun now : Teller W) (file : Option (List ℕ)) (session : Session) (named : List ℕ) : Type 0 where
    pub recording : RecordingState
    pub history : List Step
    pub carried : List Carried
    pub noticed : Noticed
    pub tellings : List Telling
    pub read : IsFileRead file recording history
    pub ended : HasEnded recording session.notes
    pub closed : IsSessionClosed session recording named (numbers_of tellings) history carried noticed
    pub may_lose : Bool
    pub lossless : may_lose ≡ false → lost_in recording ≡ 0
    pub classic : may_lose ≡ false → IsClassic file
    pub has_told : HasTold begun now may_lose session.audit.judge.judging named (so_far history carried noticed) tellings

  -- a call has failed: these frames were read before, and of their transfers these were told, the last one in part
  pub record IsReadInPart (begun now : Teller W) (file : Option (List ℕ)) (judging : Judging) (named : List ℕ) : Type 0 where
    pub history : List Step
    pub carried : List Carried
    pub noticed : Noticed
    pub tellings : List Telling
    pub read : WereRead file history
    pub came : IsNoticedOf named history carried noticed
    pub may_lose : Bool
    pub classic : may_lose ≡ false → IsClassic file
    pub has_told : HasToldPart begun now may_lose judging named (so_far history carried noticed) tellings

  -- ---- all of it

  -- The file is a recording that was read to its end, or to a fault that is noted. By the datagrams that its frames carried, each transfer that a
  -- request opened was told, in the order of the requests, each once, and none before it was over or the recording had ended; their rows were
  -- printed, and nothing else, and none waits. Rows that refuse a datagram were printed as if none were lost only where none was.
  pub record IsRecordingTold (begun now : Teller W) (file : Option (List ℕ)) (judging : Judging) (named : List ℕ) (notes : Notes) : Type 0 where
    pub recording : RecordingState
    pub history : List Step
    pub carried : List Carried
    pub noticed : Noticed
    pub tellings : List Telling
    pub read : IsFileRead file recording history
    pub ended : HasEnded recording notes
    pub came : IsNoticedOf named history carried noticed
    pub noted : AreNotesOf notes (giving_up (frames_in recording.waiting) noticed)
    pub may_lose : Bool
    pub lossless : may_lose ≡ false → lost_in recording ≡ 0
    pub told : HasToldAll begun now may_lose (lost_in recording) judging named (Some (once_ended recording (so_far history carried noticed))) (so_far history carried noticed) tellings
    pub in_order : AreInOrder tellings
    pub none_left_out : (n : ℕ) → IsSome (opened n (whole_of named carried)) → is_among n (numbers_of tellings) ≡ true

  -- What a fault leaves of it: of the datagrams that were read before, the first rows of transfers, in the order of the requests, were printed, the
  -- last one in part, and nothing else; none waits, and how many packets the recorder had lost by then is any number. Where the fault came
  -- behind the recording's end, the last ones may have been told by that. Rows that refuse a datagram were printed as if none were lost only
  -- where the recording can't tell that any was.
  pub record IsRecordingToldInPart (begun now : Teller W) (file : Option (List ℕ)) (judging : Judging) (named : List ℕ) : Type 0 where
    pub history : List Step
    pub carried : List Carried
    pub noticed : Noticed
    pub tellings : List Telling
    pub dropped : ℕ
    pub end : Option Part
    pub read : WereRead file history
    pub came : IsNoticedOf named history carried noticed
    pub ended : IfSome end (IsEndOf file (so_far history carried noticed))
    pub may_lose : Bool
    pub classic : may_lose ≡ false → IsClassic file
    pub told : HasToldInPart begun now may_lose dropped judging named end (so_far history carried noticed) tellings
    pub in_order : AreInOrder tellings
