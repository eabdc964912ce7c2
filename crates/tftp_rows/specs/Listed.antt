-- What a list says of transfers. Lists of what a recording has have the newest first; rows stand in the order in which they are printed.
use Rattle.std.specs.Prelude.{◌≡◌, ◌⊎◌, ◌^◌, ◌-◌, ◌+◌, ℕ, false, List, [], ◌∷◌, length, min, IfSome, Option, Some, None}
use Rattle.net_udp.specs.Recording.{Step}
use Rattle.tftp_packet.specs.{End, Client, Server}
use Rattle.audit_flows.specs.{Transfer}
use Rattle.audit_flows.specs.Transfers.{opened_it}
use Rattle.audit_flows.specs.Transfers.Views.{server_of}
use Rattle.audit_recording.specs.Between.Captured.{server_or_asked}
use Rattle.audit_recording.specs.Blame.Frames.{Carried, framed, view_of, whole_of}
use Rattle.audit_recording.specs.Blame.Kept.{IsTrailOf, first_frame, last_frame}
use Rattle.audit_recording.specs.Endings.Told.{IsEnding}
use Rattle.audit_recording.specs.Endings.Undelivered.{undelivered_of}
use Rattle.audit_recording.specs.Session.Heard.{IsUndeliveredOf}
use Rattle.audit_recording.specs.Session.Kept.{IsSessionOf}
use Rattle.audit_recording.specs.Session.Noted.{Noticed}
use Rattle.audit_recording.specs.Session.Trails.{opening_of}
use Rattle.audit_recording.specs.declared.blame.ending.Ending.{Ending}
use Rattle.audit_recording.specs.declared.blame.trail.Trail.{Trail}
use Rattle.audit_recording.specs.declared.blame.undelivered.Undelivered.{Undelivered}
use Rattle.audit_recording.specs.declared.judges.judging.Judging.TheVariants.{Nowhere}
use Rattle.audit_recording.specs.declared.rows.row.Point.TheVariants as point
use Rattle.audit_recording.specs.declared.session.session.Session.{Session}
use Rattle.tftp_rows.specs.Asked.{AreAskedBy}
use Rattle.tftp_rows.specs.Ended.{Concludes}
use Rattle.tftp_rows.specs.Listing.{list_lines}
use Rattle.tftp_rows.specs.Printing.{PrintsAll, PrintsPart}
use Rattle.tftp_rows.specs.Telling.{IsNext}
use Rattle.tftp_rows.specs.Times.{AreTimesOf}
use Rattle.tftp_rows.specs.Whole.{moment_of}
use Rattle.tftp_rows.specs.declared.conclusion.Conclusion.{Conclusion}
use Rattle.tftp_rows.specs.declared.lister.Lister.{Lister}
use Rattle.tftp_rows.specs.declared.listing.ListRow.{ListRow}

-- ---- a row

-- what did not reach the server. A client that a datagram does not reach is mostly one that has the whole file, and is gone.
abbrev pub at_server : Option (End × Undelivered) → Option (End × Undelivered)
at_server None = None
at_server (Some u) = by u.0 where
  by : End → Option (End × Undelivered)
  by Client = None
  by Server = Some u

-- It tells how the transfer ended by a recording that goes on to this moment, as far as no judge is asked.
abbrev pub IsEndOf : Conclusion → Trail → ℕ → Transfer → List ℕ → List Carried → Type 0
IsEndOf c t now x named carried = (e : Ending) × IsEnding x named carried false now e × Concludes e false false (at_server (undelivered_of t)) c

-- It is the row of this transfer, as the one with that number.
pub record IsListRowOf (row : ListRow) (n : ℕ) (t : Trail) (now : ℕ) (x : Transfer) (named : List ℕ) (carried : List Carried) : Type 0 where
  pub number : row.number ≡ n
  pub client : row.client ≡ x.client
  pub server : row.server ≡ server_or_asked x (server_of x.number (whole_of named carried))
  pub asked : IfSome (opening_of x.number named carried) (λ f. AreAskedBy row.asked f.carried.datagram.payload)
  pub datagrams : row.datagrams ≡ min (length (view_of point.Client x.number named carried)) (2 ^ 64 - 1)
  pub first_frame : IfSome (first_frame (λ f. opened_it x.number f.placed) (framed named carried)) (λ frame. frame ≡ row.first_frame)
  pub last_frame : row.last_frame ≡ last_frame row.first_frame (view_of point.Client x.number named carried)
  pub ended : IsEndOf row.ended t now x named carried
  pub times : AreTimesOf row.times x None named carried

-- ---- which transfer is listed

-- The next transfer was listed, and not again, in one row, by what was kept of it and up to the moment up to which the recording was read.
pub record ListsNext {W : Type 0} (contents : W → Option (List ℕ)) (old new : Lister W) (row : ListRow) (after : Session) (named out : List ℕ) (history : List Step) (carried : List Carried) (s : Noticed) : Type 0 where
  pub transfer : Transfer
  pub next : IsNext transfer named out carried
  pub trail : Trail
  pub kept : IsTrailOf trail Nowhere transfer named carried
  pub undelivered : IsUndeliveredOf trail.undelivered transfer named history carried
  pub of : IsListRowOf row new.told trail (moment_of s) transfer named carried
  pub prints : PrintsAll contents list_lines old.printer new.printer (row ∷ [])
  pub number : new.told ≡ min (old.told + 1) (2 ^ 64 - 1)
  pub status : new.status ≡ old.status
  pub handed_out : IsSessionOf after named (transfer.number ∷ out) history carried s

-- The next transfer was listed in part: of its row.
pub record ListsNextPart {W : Type 0} (contents : W → Option (List ℕ)) (old new : Lister W) (named out : List ℕ) (history : List Step) (carried : List Carried) (s : Noticed) : Type 0 where
  pub transfer : Transfer
  pub next : IsNext transfer named out carried
  pub trail : Trail
  pub kept : IsTrailOf trail Nowhere transfer named carried
  pub undelivered : IsUndeliveredOf trail.undelivered transfer named history carried
  pub row : ListRow
  pub of : IsListRowOf row (min (old.told + 1) (2 ^ 64 - 1)) trail (moment_of s) transfer named carried
  pub prints : PrintsPart contents list_lines old.printer new.printer (row ∷ [])

-- A call has failed: the next transfer was listed in part, or nothing was printed.
abbrev pub ListsPart : {W : Type 0} → (W → Option (List ℕ)) → Lister W → Lister W → List ℕ → List ℕ → List Step → List Carried → Noticed → Type 0
ListsPart contents old new named out history carried s = (new.printer ≡ old.printer) ⊎ ListsNextPart contents old new named out history carried s

-- These rows were printed, one after another: each is that of the transfer that was the next one then, and this held of the session from
-- which it was handed out.
abbrev pub ListsInTurn : {W : Type 0} → (W → Option (List ℕ)) → (Session → Type 0) → List ℕ → List Step → List Carried → Noticed → List ListRow → Lister W → Lister W → List ℕ → List ℕ → Type 0
ListsInTurn contents Holds named history carried s [] old new out left = (new ≡ old) × (left ≡ out)
ListsInTurn {W} contents Holds named history carried s (row ∷ more) old new out left =
    (mid : Lister W) × (before : Session) × (after : Session) × IsSessionOf before named out history carried s × Holds before
    × (step : ListsNext contents old mid row after named out history carried s)
    × ListsInTurn contents Holds named history carried s more mid new (step.transfer.number ∷ out) left

-- Transfers were listed in turn, and nothing else; the session is left without them.
pub record ListsTurns {W : Type 0} (contents : W → Option (List ℕ)) (Holds : Session → Type 0) (old new : Lister W) (after : Session) (named out : List ℕ) (history : List Step) (carried : List Carried) (s : Noticed) : Type 0 where
  pub rows : List ListRow
  pub left : List ℕ
  pub turns : ListsInTurn contents Holds named history carried s rows old new out left
  pub handed_out : IsSessionOf after named left history carried s

-- Transfers were listed in turn, and then the next one in part, or no more of them.
pub record ListsTurnsPart {W : Type 0} (contents : W → Option (List ℕ)) (Holds : Session → Type 0) (old new : Lister W) (named out : List ℕ) (history : List Step) (carried : List Carried) (s : Noticed) : Type 0 where
  pub mid : Lister W
  pub between : Session
  pub turns : ListsTurns contents Holds old mid between named out history carried s
  pub part : (new.printer ≡ mid.printer) ⊎ (Holds between × ListsNextPart contents mid new named turns.left history carried s)
