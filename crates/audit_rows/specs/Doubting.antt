-- Why the refusal that a row tells is no accusation. Lists have the newest first.
use Rattle.std.specs.Prelude.{◌&&◌, ◌||◌, ◌++◌, not, Bool, true, false, List, [], Option, Some, is_none, is_some, if◌then◌else◌}
use Rattle.audit_flows.specs.Lines.{Placed, same_endpoint}
use Rattle.audit_flows.specs.{Transfer}
use Rattle.audit_recording.specs.declared.blame.blame.Blamed.{Blamed}
use Rattle.audit_recording.specs.declared.blame.doubted.Doubted.{Doubted}
use Rattle.audit_recording.specs.declared.blame.reason.Reason.{Reason}
use Rattle.audit_recording.specs.Reasons.Listed.{missing_reasons, reasons_of, where_so}
use Rattle.audit_recording.specs.Rows.Accusing.{role_at}
use Rattle.audit_recording.specs.Rows.Told.{is_at_end, may_be_asked, telling_depends}
use Rattle.audit_recording.specs.declared.blame.reason.Reason.TheVariants.{Unplaced, Unseen, SpeaksFirst, GoesOver, Stranger}
use Rattle.audit_recording.specs.declared.rows.row.Point.{Point}
use Rattle.audit_recording.specs.declared.rows.row.Point.TheVariants as point
use Rattle.audit_recording.specs.declared.rows.said.Said.{Said}
use Rattle.audit_recording.specs.declared.rows.said.Said.TheVariants.{Refused, NotWhole}
use Rattle.audit_recording.specs.declared.rows.telling.Telling.{Telling}
use Rattle.audit_rows.specs.Viewing.{is_cut_short}
use Rattle.audit_rows.specs.declared.viewed.Viewed.{Viewed}

-- ---- by the place of the recording

abbrev pub is_client : Point → Bool
is_client point.Client = true
is_client _ = false

abbrev pub is_server : Point → Bool
is_server point.Server = true
is_server _ = false

-- The recording may have been made between the ends: the transfer was judged there.
abbrev pub may_be_between : Telling → Bool
may_be_between t = is_some t.between || not (is_at_end t.point)

-- A request that passed elsewhere explains it, it may be: between the ends a wrong answer to a stray may be a right one, and so may
-- all be that follows an ERROR 5 of an unknown transfer id (RFC 1350, section 4).
abbrev pub is_unseen : Telling → Blamed → Bool
is_unseen t b = (not (is_at_end t.point) && may_be_asked t.said) || (may_be_between t && b.follows_unknown_id)

-- At the server, its client sent the datagram to where it had heard nothing from.
abbrev pub is_spoken_first : Telling → Blamed → Bool
is_spoken_first t b = is_server t.point && b.speaks_first

-- the client sent it, and it was recorded there for sure: it is not late
abbrev pub is_clients_own : Transfer → Telling → Blamed → Bool
is_clients_own x t b = is_client t.point && (not (is_some t.between) && same_endpoint b.source x.client)

-- It may be late from an earlier transfer between the same two, or rest on an OACK that is.
abbrev pub goes_over : Transfer → Telling → Blamed → Bool
goes_over x t b = not (is_clients_own x t b) && b.comes_of_earlier

-- ---- by who sent it

-- It passed at the client, and neither end sent it (RFC 1350, section 4).
abbrev pub is_strangers : Transfer → List Placed → Blamed → Bool
is_strangers x whole b = not b.is_beside && is_none (role_at x whole b.source)

-- ---- all reasons

-- Why the refusal of that datagram, told so, is no accusation: each reason where it holds.
abbrev pub refusal_reasons : Transfer → List Placed → Doubted → Telling → Blamed → List Reason
refusal_reasons x whole d t b =
    where_so Unplaced (telling_depends t)
    ++ where_so Unseen (is_unseen t b)
    ++ where_so SpeaksFirst (is_spoken_first t b)
    ++ where_so GoesOver (goes_over x t b)
    ++ where_so Stranger (is_strangers x whole b)
    ++ reasons_of whole d b

-- Why what a row tells is doubtful: a refusal, and also that a transfer is not whole, where it may have gone on.
abbrev pub reasons_told : Transfer → List Placed → Doubted → Telling → Viewed → Said → Option Blamed → List Reason
reasons_told x whole d t v (Refused rule frame) (Some b) = refusal_reasons x whole d t b
reasons_told x whole d t v NotWhole _ = if is_cut_short v.found then missing_reasons d else []
reasons_told x whole d t v _ _ = []

abbrev pub row_reasons : Transfer → List Placed → Doubted → Telling → Viewed → List Reason
row_reasons x whole d t v = reasons_told x whole d t v t.said v.blamed
