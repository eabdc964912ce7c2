-- What is told of transfers: the rows of their verdicts. Lists of what a recording has have the newest first; rows stand in the order in which
-- they are told.
use Rattle.std.specs.Prelude.{◌≡◌, ◌⊎◌, ◌+◌, ◌-◌, ◌^◌, ◌≤◌, ℕ, false, true, max, min, List, [], ◌∷◌, ◌++◌, Option, Some, None, IsSome, Result, Ok, Err, codes, string_bytes}
use Rattle.std.specs.List.{AllByRecursion}
use Rattle.net_udp.specs.Recording.{Step}
use Rattle.audit_flows.specs.Lines.{follows_request, same_address}
use Rattle.audit_flows.specs.{Transfer}
use Rattle.audit_flows.specs.Transfers.{some_of}
use Rattle.audit_recording.specs.Blame.Frames.{Carried, whole_of}
use Rattle.audit_recording.specs.Blame.Named.{named_in}
use Rattle.audit_recording.specs.Judges.{is_among, opened}
use Rattle.audit_recording.specs.Losses.Noted.{IsAsked, IsFirst, IsMissingOf, IsTold, Since}
use Rattle.audit_recording.specs.Reasons.Clock.{last_of}
use Rattle.audit_recording.specs.Rows.Told.{refused_frame, rows_told, status_of}
use Rattle.audit_recording.specs.Session.Beside.{IsMarkedBy}
use Rattle.audit_recording.specs.Session.Heard.{IsUndeliveredOf}
use Rattle.audit_recording.specs.Session.Kept.{IsSessionOf}
use Rattle.audit_recording.specs.Session.Noted.{Noticed, stretch_of}
use Rattle.audit_recording.specs.Session.Recording.{reached_by}
use Rattle.audit_recording.specs.declared.judges.judging.Judging.{Judging}
use Rattle.audit_recording.specs.declared.rows.row.Row.{Row}
use Rattle.audit_recording.specs.declared.session.session.Session.{Session}
use Rattle.audit_rows.specs.{IsJudgedOf}
use Rattle.audit_rows.specs.Charging.{IsChargeOf, dropped_reasons, unless_listed}
use Rattle.audit_rows.specs.Judging.{IsToldOf, are_alike, said_there, view_at}
use Rattle.audit_rows.specs.Viewing.{IsStanding, bytes_in, found_in, said_in}
use Rattle.audit_rows.specs.declared.judged.Judged.{Judged}
use Rattle.audit_rows.specs.declared.told.Told.{Told}
use Rattle.audit_rows.specs.declared.viewed.Viewed.{Viewed}
use Rattle.tftp_rows.specs.Ended.{IsConclusionOf}
use Rattle.tftp_rows.specs.Premises.{goes_beyond_once}
use Rattle.tftp_rows.specs.Printing.{PrintsAll, PrintsPart, verdict_lines}
use Rattle.tftp_rows.specs.Times.{AreTimesOf}
use Rattle.tftp_rows.specs.Verdicts.{has_same_words, verdict_line}
use Rattle.tftp_rows.specs.declared.printing.RowPrinter.{RowPrinter}
use Rattle.tftp_rows.specs.declared.row.VerdictRow.{VerdictRow}
use Rattle.tftp_rows.specs.declared.teller.Teller.{Teller}

-- ---- the rows of a transfer

-- It is the row of what is told of the transfer with this number in a file.
pub record IsRowOf (name : List ℕ) (n : ℕ) (j : Judged) (t : Told) (row : VerdictRow) : Type 0 where
  pub file : row.file.now ≡ name
  pub number : row.number ≡ n
  pub place : row.place ≡ t.place
  pub frame : row.frame ≡ refused_frame (said_in t.view.now)
  pub verdict : string_bytes row.verdict ++ codes "\n" ≡ verdict_line t.view.now.found
  pub charge : (judging : Judging) (x : Transfer) (named : List ℕ) (carried : List Carried) → IsJudgedOf j judging x named carried
      → IsChargeOf row.charge x (whole_of named carried) j.doubted t.telling t.view.now
  pub ended : (judging : Judging) (x : Transfer) (named : List ℕ) (carried : List Carried) → IsJudgedOf j judging x named carried
      → IsConclusionOf row.ended j t x named carried
  pub stands : (judging : Judging) (x : Transfer) (named : List ℕ) (carried : List Carried) → IsJudgedOf j judging x named carried
      → IsStanding t.telling.point x (some_of x.number follows_request (whole_of named carried)) (named_in x (whole_of named carried)) t.view.now row.stands
  pub beyond : row.goes_beyond ≡ goes_beyond_once t.view.now
  pub rollover : row.rollover ≡ t.view.now.rollover
  pub times : (judging : Judging) (x : Transfer) (named : List ℕ) (carried : List Carried) → IsJudgedOf j judging x named carried
      → AreTimesOf row.times x (bytes_in t.view.now.found) named carried

-- It is the row of the verdict at a place.
abbrev pub IsRowAt : List ℕ → ℕ → Judged → Row → VerdictRow → Type 0
IsRowAt name n j place row = (t : Told) × IsToldOf t place j × IsRowOf name n j t row

-- one for each of these places, in this order
abbrev pub AreRowsAt : List ℕ → ℕ → Judged → List Row → List VerdictRow → Type 0
AreRowsAt name n j [] rows = rows ≡ []
AreRowsAt name n j (place ∷ more) rows =
    (row : VerdictRow) × (others : List VerdictRow) × (rows ≡ row ∷ others) × IsRowAt name n j place row × AreRowsAt name n j more others

-- the places at which a transfer's verdicts are told, in their order
abbrev pub places_of : Judged → List Row
places_of j =
    rows_told (said_there j.client) (said_there j.server) (said_there j.between) (are_alike j.client j.server (has_same_words (found_in j.client) (found_in j.server)))

-- the transfer was judged at each of these places
abbrev pub AreJudgedAt : Judged → List Row → Type 0
AreJudgedAt j [] = Unit {0}
AreJudgedAt j (place ∷ more) = IsSome (view_at place.point j) × AreJudgedAt j more

-- the status of a verdict, where there is one
abbrev pub status_in : Option Viewed → ℕ
status_in None = 0
status_in (Some v) = status_of (said_in v)

-- the greatest status of the verdicts at these places
abbrev pub worst_at : Judged → List Row → ℕ
worst_at j [] = 0
worst_at j (place ∷ more) = max (status_in (view_at place.point j)) (worst_at j more)

-- ---- what is printed of them, and when

-- It is the row as it is printed where the recorder lost so many packets.
pub record IsRowWith (dropped : ℕ) (row last : VerdictRow) : Type 0 where
  pub reasons : last.charge.reasons.items ≡ row.charge.reasons.items ++ dropped_reasons row.charge.is_refusal dropped
  pub accused : last.charge.accused ≡ unless_listed (dropped_reasons row.charge.is_refusal dropped) row.charge.accused
  pub rest : last ≡ record row { charge = last.charge }

abbrev pub AreRowsWith : ℕ → List VerdictRow → List VerdictRow → Type 0
AreRowsWith dropped [] last = last ≡ []
AreRowsWith dropped (row ∷ more) last = (one : VerdictRow) × (others : List VerdictRow) × (last ≡ one ∷ others) × IsRowWith dropped row one × AreRowsWith dropped more others

-- none of these rows refuses a datagram
abbrev pub RefuseNothing : List VerdictRow → Type 0
RefuseNothing rows = AllByRecursion (λ (row : VerdictRow). row.frame ≡ None) rows

module _ {W : Type 0} (contents : W → Option (List ℕ)) where
  -- All these rows were printed, as they are where so many packets were lost, and nothing else.
  pub record PrintsAllWith (dropped : ℕ) (old new : RowPrinter W) (rows : List VerdictRow) : Type 0 where
    pub printed : List VerdictRow
    pub last : AreRowsWith dropped rows printed
    pub prints : PrintsAll contents verdict_lines old new printed

  -- The first of these rows were printed, or in part, and nothing else.
  pub record PrintsPartWith (dropped : ℕ) (old new : RowPrinter W) (rows : List VerdictRow) : Type 0 where
    pub due : List VerdictRow
    pub others : List VerdictRow
    pub are : rows ≡ due ++ others
    pub printed : List VerdictRow
    pub last : AreRowsWith dropped due printed
    pub prints : PrintsPart contents verdict_lines old new printed

  -- These rows come behind those that wait. The first of all these were printed, each once and in this order, and nothing else; the others
  -- wait. While the recorder may yet tell that it lost packets, none is printed that refuses a datagram.
  pub record TellsAll (old new : Teller W) (rows : List VerdictRow) : Type 0 where
    pub due : List VerdictRow
    pub are : old.held.items ++ rows ≡ due ++ new.held.items
    pub prints : PrintsAllWith old.dropped old.printer new.printer due
    pub dropped : new.dropped ≡ old.dropped
    pub file : new.file ≡ old.file
    pub told : new.told ≡ old.told
    pub may_lose : new.may_lose ≡ old.may_lose
    pub none_waits : old.may_lose ≡ false → old.held.items ≡ [] → new.held.items ≡ []
    pub calm : old.may_lose ≡ true → RefuseNothing due

  -- The first of all these were printed, and nothing else: whole, and then those that wait come next; or in part, and none waits.
  pub record TellsPart (old new : Teller W) (rows : List VerdictRow) : Type 0 where
    pub due : List VerdictRow
    pub left : List VerdictRow
    pub are : old.held.items ++ rows ≡ due ++ (new.held.items ++ left)
    pub prints : PrintsAllWith old.dropped old.printer new.printer due ⊎ (PrintsPartWith old.dropped old.printer new.printer due × (new.held.items ≡ []))
    pub none_waits : old.may_lose ≡ false → old.held.items ≡ [] → new.held.items ≡ []
    pub calm : old.may_lose ≡ true → RefuseNothing due

  -- what is told of a transfer at these places, however the call ends
  pub record TellsRowsAt (old new : Teller W) (j : Judged) (places : List Row) : Type 0 where
    pub rows : List VerdictRow
    pub are : AreRowsAt old.file.now old.told j places rows
    pub tells : TellsAll old new rows

  pub record TellsPartAt (old new : Teller W) (j : Judged) (places : List Row) : Type 0 where
    pub first : List Row
    pub others : List Row
    pub all : places ≡ first ++ others
    pub rows : List VerdictRow
    pub are : AreRowsAt old.file.now old.told j first rows
    pub tells : TellsPart old new rows

abbrev pub PrintsWith : {W A E : Type 0} → (W → Option (List ℕ)) → ℕ → RowPrinter W → RowPrinter W → Result A E → List VerdictRow → Type 0
PrintsWith contents dropped old new (Ok _) rows = PrintsAllWith contents dropped old new rows
PrintsWith contents dropped old new (Err e) rows = PrintsPartWith contents dropped old new rows

abbrev pub Tells : {W A E : Type 0} → (W → Option (List ℕ)) → Teller W → Teller W → Result A E → List VerdictRow → Type 0
Tells contents old new (Ok _) rows = TellsAll contents old new rows
Tells contents old new (Err e) rows = TellsPart contents old new rows

abbrev pub TellsPlaces : {W A E : Type 0} → (W → Option (List ℕ)) → Teller W → Teller W → Result A E → Judged → List Row → Type 0
TellsPlaces contents old new (Ok _) j places = TellsRowsAt contents old new j places
TellsPlaces contents old new (Err e) j places = TellsPartAt contents old new j places

-- ---- which transfer is told

-- Of the transfers that requests have opened and that were not told it is the oldest.
pub record IsNext (x : Transfer) (named out : List ℕ) (carried : List Carried) : Type 0 where
  pub opens : opened x.number (whole_of named carried) ≡ Some x
  pub first_time : is_among x.number out ≡ false
  pub oldest : (n : ℕ) → IsSome (opened n (whole_of named carried)) → is_among n out ≡ false → x.number ≤ n

-- The next transfer was told, and not again: the rows of its verdicts, by what there is to say of it, come next. The recording may lack
-- these frames of its client's, and was read up to this moment; and what was left out or discarded may have been of it.
pub record TellsNext {W : Type 0} (contents : W → Option (List ℕ)) (old new : Teller W) (before after : Session) (named out : List ℕ) (history : List Step) (carried : List Carried) (s : Noticed) : Type 0 where
  pub transfer : Transfer
  pub next : IsNext transfer named out carried
  pub judged : Judged
  pub of : IsJudgedOf judged before.audit.judge.judging transfer named carried
  pub missing : IsFirst (IsMissingOf judged.trail.transfer.client.address s.events) judged.doubted.missing.first
  pub within : IsAsked (λ host. same_address host judged.trail.transfer.client.address) judged.trail.first s.events
      → IsTold (Since (IsMissingOf judged.trail.transfer.client.address s.events) (stretch_of judged.trail)) (stretch_of judged.trail) judged.doubted.missing.within
  pub beside : IsMarkedBy transfer.number s.beside judged.trail
  pub undelivered : IsUndeliveredOf judged.trail.undelivered transfer named history carried
  pub until : judged.until ≡ max (last_of s.times) (reached_by s.times)
  pub rows : TellsRowsAt contents (record old { told = new.told }) new judged (places_of judged)
  pub number : new.told ≡ min (old.told + 1) (2 ^ 64 - 1)
  pub status : new.status ≡ max old.status (worst_at judged (places_of judged))
  pub handed_out : IsSessionOf after named (transfer.number ∷ out) history carried s

-- The next transfer was told in part: the rows of its first verdicts come next.
pub record TellsNextPart {W : Type 0} (contents : W → Option (List ℕ)) (old new : Teller W) (judging : Judging) (named out : List ℕ) (carried : List Carried) : Type 0 where
  pub transfer : Transfer
  pub next : IsNext transfer named out carried
  pub judged : Judged
  pub of : IsJudgedOf judged judging transfer named carried
  pub rows : TellsPartAt contents (record old { told = min (old.told + 1) (2 ^ 64 - 1) }) new judged (places_of judged)

-- the session judges where the first one does
abbrev pub JudgesAs : Session → Session → Type 0
JudgesAs first session = session.audit.judge.judging ≡ first.audit.judge.judging

-- What there is to say of these transfers was told, one after another: each was the next one then, and this held of the session from which
-- it was handed out.
abbrev pub TellsInTurn : {W : Type 0} → (W → Option (List ℕ)) → (Session → Type 0) → List ℕ → List Step → List Carried → Noticed → List Judged → Teller W → Teller W → List ℕ → List ℕ → Type 0
TellsInTurn contents Holds named history carried s [] old new out left = (new ≡ old) × (left ≡ out)
TellsInTurn {W} contents Holds named history carried s (j ∷ more) old new out left =
    (mid : Teller W) × (before : Session) × (after : Session) × IsSessionOf before named out history carried s × Holds before
    × (step : TellsNext contents old mid before after named out history carried s) × (step.judged ≡ j)
    × TellsInTurn contents Holds named history carried s more mid new (step.transfer.number ∷ out) left

-- Transfers were told in turn, and nothing else; the session is left without them.
pub record TellsTurns {W : Type 0} (contents : W → Option (List ℕ)) (Holds : Session → Type 0) (old new : Teller W) (after : Session) (named out : List ℕ) (history : List Step) (carried : List Carried) (s : Noticed) : Type 0 where
  pub told : List Judged
  pub left : List ℕ
  pub turns : TellsInTurn contents Holds named history carried s told old new out left
  pub handed_out : IsSessionOf after named left history carried s

-- Transfers were told in turn, and then the next one in part, or no more of them.
pub record TellsTurnsPart {W : Type 0} (contents : W → Option (List ℕ)) (Holds : Session → Type 0) (old new : Teller W) (judging : Judging) (named out : List ℕ) (history : List Step) (carried : List Carried) (s : Noticed) : Type 0 where
  pub mid : Teller W
  pub between : Session
  pub turns : TellsTurns contents Holds old mid between named out history carried s
  pub part : (new ≡ mid) ⊎ TellsNextPart contents mid new judging named turns.left carried
