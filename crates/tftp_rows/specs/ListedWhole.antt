-- What is listed of a whole recording: the row of each of its transfers, once. Lists of what a recording has, and of the transfers that were
-- listed, have the newest first; rows stand in the order in which they are printed.
use Rattle.std.specs.Prelude.{◌≡◌, ◌<◌, ◌^◌, ◌-◌, ◌++◌, ℕ, true, List, [], ◌∷◌, length, min, IfSome, IsSome, Option, Some, None, if◌then◌else◌}
use Rattle.std.specs.List.{AllByRecursion}
use Rattle.net_udp.specs.Recording.{RecordingState, Step}
use Rattle.audit_flows.specs.{Transfer}
use Rattle.audit_recording.specs.Blame.Frames.{Carried, whole_of}
use Rattle.audit_recording.specs.Blame.Kept.{IsTrailOf}
use Rattle.audit_recording.specs.Judges.{is_among, opened}
use Rattle.audit_recording.specs.Session.Heard.{IsUndeliveredOf}
use Rattle.audit_recording.specs.Session.Kept.{IsSessionAfter}
use Rattle.audit_recording.specs.Session.Noted.{AreNotesOf, Noticed, frames_in, giving_up}
use Rattle.audit_recording.specs.Session.Opened.{HasEnded, IsSessionClosed}
use Rattle.audit_recording.specs.Session.Recording.{IsNoticedOf}
use Rattle.audit_recording.specs.declared.blame.trail.Trail.{Trail}
use Rattle.audit_recording.specs.declared.judges.judging.Judging.TheVariants.{Nowhere}
use Rattle.audit_recording.specs.declared.session.notes.Notes.{Notes}
use Rattle.audit_recording.specs.declared.session.session.Session.{Session}
use Rattle.tftp_rows.specs.Files.{is_read_whole}
use Rattle.tftp_rows.specs.Listed.{IsListRowOf}
use Rattle.tftp_rows.specs.Listing.{list_lines}
use Rattle.tftp_rows.specs.Printing.{PrintsAll, PrintsPart}
use Rattle.tftp_rows.specs.Telling.{IsNext}
use Rattle.tftp_rows.specs.Whole.{IsDue, IsEndOf, IsFileRead, IsPartOf, Part, WereRead, moment_of, once_ended, so_far}
use Rattle.tftp_rows.specs.declared.lister.Lister.{Lister}
use Rattle.tftp_rows.specs.declared.listing.ListRow.{ListRow}

-- ---- the transfers that were listed

-- a transfer, what was kept of it, and its row
pub record Entry : Type 0 where
  pub transfer : Transfer
  pub trail : Trail
  pub row : ListRow

abbrev pub numbers_in : List Entry → List ℕ
numbers_in [] = []
numbers_in (e ∷ older) = e.transfer.number ∷ numbers_in older

-- the rows of all of them
abbrev pub rows_in : List Entry → List ListRow
rows_in [] = []
rows_in (e ∷ older) = rows_in older ++ e.row ∷ []

-- how many these are, as 64 bits count them
abbrev pub counted_in : List Entry → ℕ
counted_in entries = min (length entries) (2 ^ 64 - 1)

-- By this part of the recording it is the next transfer behind the older ones, and all is known of it. What was kept of it is what the part
-- says, and the row is the row of that transfer, by the moment up to which the part was read.
pub record IsListedNext (named : List ℕ) (end : Option Part) (p : Part) (e : Entry) (older : List Entry) : Type 0 where
  pub next : IsNext e.transfer named (numbers_in older) p.carried
  pub due : IsDue end named p e.trail
  pub kept : IsTrailOf e.trail Nowhere e.transfer named p.carried
  pub undelivered : IsUndeliveredOf e.trail.undelivered e.transfer named p.history p.carried
  pub row : IsListRowOf e.row (counted_in (e ∷ older)) e.trail (moment_of p.noticed) e.transfer named p.carried

-- each was the next one, and all was known of it, by what had been read when it was listed: a part of all
abbrev pub AreListed : List ℕ → Option Part → Part → List Entry → Type 0
AreListed named end all [] = Unit {0}
AreListed named end all (e ∷ older) = (p : Part) × IsPartOf p all × IsListedNext named end p e older × AreListed named end p older

-- each has a greater number than those before it: its request came later
abbrev pub AreAscending : List Entry → Type 0
AreAscending [] = Unit {0}
AreAscending (e ∷ older) = AllByRecursion (λ n. n < e.transfer.number) (numbers_in older) × AreAscending older

module _ {W : Type 0} (contents : W → Option (List ℕ)) where
  -- ---- while it is read

  -- Since the list was begun these transfers were listed: their rows were printed, each once and in order, and nothing else.
  pub record HasListed (begun now : Lister W) (named : List ℕ) (end : Option Part) (all : Part) (entries : List Entry) : Type 0 where
    pub listed : AreListed named end all entries
    pub prints : PrintsAll contents list_lines begun.printer now.printer (rows_in entries)
    pub number : now.told ≡ counted_in entries
    pub status : now.status ≡ begun.status

  -- Frames were read, as `Read` says, the session is the one after them, and of their transfers these were listed, and handed out.
  pub record IsListedOn (begun now : Lister W) (Read : List Step → Type 0) (session : Session) (named : List ℕ) : Type 0 where
    pub history : List Step
    pub carried : List Carried
    pub noticed : Noticed
    pub entries : List Entry
    pub read : Read history
    pub session_is : IsSessionAfter session named (numbers_in entries) history carried noticed
    pub has_listed : HasListed begun now named None (so_far history carried noticed) entries

  -- The file was read to its end, or to a fault that is noted, and the session is closed: of their transfers these were listed, and handed out.
  pub record IsListedThrough (begun now : Lister W) (file : Option (List ℕ)) (session : Session) (named : List ℕ) : Type 0 where
    pub recording : RecordingState
    pub history : List Step
    pub carried : List Carried
    pub noticed : Noticed
    pub entries : List Entry
    pub read : IsFileRead file recording history
    pub ended : HasEnded recording session.notes
    pub closed : IsSessionClosed session recording named (numbers_in entries) history carried noticed
    pub has_listed : HasListed begun now named None (so_far history carried noticed) entries

  -- ---- all of it

  -- The file is a recording that was read to its end, or to a fault that is noted. By the datagrams that its frames carried, each transfer that a
  -- request opened was listed, in the order of the requests, each once, and none before it was over or the recording had ended; their rows were
  -- printed, and nothing else. The status is 2 where it was not read whole.
  pub record IsRecordingListed (begun now : Lister W) (file : Option (List ℕ)) (named : List ℕ) (notes : Notes) : Type 0 where
    pub recording : RecordingState
    pub history : List Step
    pub carried : List Carried
    pub noticed : Noticed
    pub entries : List Entry
    pub read : IsFileRead file recording history
    pub ended : HasEnded recording notes
    pub came : IsNoticedOf named history carried noticed
    pub noted : AreNotesOf notes (giving_up (frames_in recording.waiting) noticed)
    pub listed : AreListed named (Some (once_ended recording (so_far history carried noticed))) (so_far history carried noticed) entries
    pub in_order : AreAscending entries
    pub none_left_out : (n : ℕ) → IsSome (opened n (whole_of named carried)) → is_among n (numbers_in entries) ≡ true
    pub prints : PrintsAll contents list_lines begun.printer now.printer (rows_in entries)
    pub number : now.told ≡ counted_in entries
    pub status : now.status ≡ if is_read_whole notes (giving_up (frames_in recording.waiting) noticed) then begun.status else 2

  -- What a fault leaves of it: of the datagrams that were read before, transfers were listed, in the order of the requests, and the first of their
  -- rows were printed, the last one in part, and nothing else. Where the fault came behind the recording's end, the last ones may have been
  -- listed by that.
  pub record IsRecordingListedInPart (begun now : Lister W) (file : Option (List ℕ)) (named : List ℕ) : Type 0 where
    pub history : List Step
    pub carried : List Carried
    pub noticed : Noticed
    pub entries : List Entry
    pub end : Option Part
    pub read : WereRead file history
    pub came : IsNoticedOf named history carried noticed
    pub ended : IfSome end (IsEndOf file (so_far history carried noticed))
    pub listed : AreListed named end (so_far history carried noticed) entries
    pub in_order : AreAscending entries
    pub prints : PrintsPart contents list_lines begun.printer now.printer (rows_in entries)
