-- Which verdicts are told of a transfer, by the points at which it was judged.
use Rattle.std.specs.Prelude.{◌≡◌, ◌≢◌, ◌⊎◌, ◌&&◌, ◌||◌, ◌==◌, not, ℕ, Bool, true, false, List, [], ◌∷◌, ◌++◌, Option, Some, None, IsSome, is_some, option_to_list, Result, Ok, Err, if◌then◌else◌}
use Rattle.law_model.specs.Model.{Meaning}
use Rattle.law_model.specs.{BadAnswer}
use Rattle.law_end.specs.{Port}
use Rattle.tftp_judge.specs.{Refusal}
use Rattle.tftp_judge.specs.declared.refusal.Refusal.TheVariants as refusal
use Rattle.judge_tap.specs.{TapRefusal}
use Rattle.judge_tap.specs.declared.refusal.TapRefusal.TheVariants as tap
use Rattle.audit_recording.specs.declared.rows.said.Said.{Said}
use Rattle.audit_recording.specs.declared.rows.said.Said.TheVariants.{Accepted, Refused, NotWhole, Memory}
use Rattle.audit_recording.specs.declared.rows.row.Row.{Row}
use Rattle.audit_recording.specs.declared.rows.row.Rows.{Rows}
use Rattle.audit_recording.specs.declared.rows.row.Place.TheVariants as places
use Rattle.audit_recording.specs.declared.rows.telling.Telling.{Telling}
use Rattle.audit_recording.specs.declared.rows.row.Point.{Point}
use Rattle.audit_recording.specs.declared.rows.row.Point.TheVariants.{Client, Server, Between}

-- ---- what is said at a point

-- what the judge of an end found, whose refused datagram is in this frame
abbrev pub said_of : Result Meaning Refusal → Option ℕ → Said
said_of (Ok m) frame = Accepted
said_of (Err (refusal.Unlawful index rule)) frame = Refused rule frame
said_of (Err (refusal.Memory count)) frame = Memory
said_of (Err _) frame = NotWhole

-- what the judge between the ends found
abbrev pub said_between : Result Meaning TapRefusal → Option ℕ → Said
said_between (Ok m) frame = Accepted
said_between (Err (tap.Unlawful index rule stands)) frame = Refused rule frame
said_between (Err (tap.Memory count)) frame = Memory
said_between (Err _) frame = NotWhole

abbrev pub is_refused : Said → Bool
is_refused (Refused rule frame) = true
is_refused _ = false

-- 0 where all is well, 2 where there was no memory to judge it, and else 1
abbrev pub status_of : Said → ℕ
status_of Accepted = 0
status_of (Refused rule frame) = 1
status_of NotWhole = 1
status_of Memory = 2

-- ---- what depends on the place

-- A recording of two ends with one address may have been made at their host or between them. Then a transfer is judged at both
-- ends and between: what an end alone sees, the order in which it sends and what does not come to it, is refused at an end and
-- not between.

abbrev pub refused_frame : Said → Option ℕ
refused_frame (Refused rule frame) = frame
refused_frame _ = None

abbrev pub same_frame : Option ℕ → Option ℕ → Bool
same_frame (Some one) (Some other) = one == other
same_frame _ _ = false

-- Between the ends a wrong answer to a stray may be a right one: its client may have asked again, by a request that did not pass
-- there (RFC 1350, section 4).
abbrev pub may_be_asked : Said → Bool
may_be_asked (Refused (Port BadAnswer) frame) = true
may_be_asked _ = false

-- what is said between refuses the same datagram, and without that doubt
abbrev pub is_refused_too : Said → Said → Bool
is_refused_too said between = same_frame (refused_frame said) (refused_frame between) && not (may_be_asked between)

-- What is refused at an end depends on the place, if the transfer was judged between the ends too and it is not refused there.
abbrev pub depends_on_place : Option Said → Option Said → Bool
depends_on_place (Some said) (Some between) = is_refused said && not (is_refused_too said between)
depends_on_place _ _ = false

abbrev pub is_at_end : Point → Bool
is_at_end Client = true
is_at_end Server = true
is_at_end Between = false

-- so does what a row of an end tells
abbrev pub telling_depends : Telling → Bool
telling_depends t = is_at_end t.point && depends_on_place (Some t.said) t.between

-- ---- the rows

-- the rows, in their order
abbrev pub rows_of : Rows → List Row
rows_of rows = option_to_list rows.client ++ (option_to_list rows.server ++ option_to_list rows.between)

-- what is told of the transfer at one point alone
abbrev pub plain_row : Point → Row
plain_row Client = record { place = places.Client; point = Client }
plain_row Server = record { place = places.Server; point = Server }
plain_row Between = record { place = places.Between; point = Between }

abbrev pub row_of : Point → Option Said → List Row
row_of point None = []
row_of point (Some said) = plain_row point ∷ []

-- what is told of both ends at once
abbrev pub both_row : Row
both_row = record { place = places.Both; point = Client }

-- Each end that was judged has its row, the client's first; both have one, if both were judged and are told alike.
abbrev pub ends_told : Option Said → Option Said → Bool → List Row
ends_told client server alike =
    if is_some client && (is_some server && alike) then both_row ∷ [] else row_of Client client ++ row_of Server server

-- What is said between the ends is told at the ends: both were judged, and no refusal of theirs depends on the place. What is
-- lawful at the client is lawful between, if it asked at port 69 or at one that was named.
abbrev pub is_told_at_ends : Option Said → Option Said → Option Said → Bool
is_told_at_ends client server between =
    is_some client && (is_some server && not (depends_on_place client between || depends_on_place server between))

-- And what was judged between them has a row, unless it is told there.
abbrev pub between_told : Option Said → Option Said → Option Said → List Row
between_told client server between = if is_told_at_ends client server between then [] else row_of Between between

abbrev pub rows_told : Option Said → Option Said → Option Said → Bool → List Row
rows_told client server between alike = ends_told client server alike ++ between_told client server between

-- ---- that all is told

abbrev pub said_at : Point → Option Said → Option Said → Option Said → Option Said
said_at Client client server between = client
said_at Server client server between = server
said_at Between client server between = between

-- the row tells what is said at this point
abbrev pub Tells : Option Said → Option Said → Bool → Point → Row → Type 0
Tells client server alike point row =
    (row ≡ plain_row point) ⊎ ((row ≡ both_row) × (point ≢ Between) × (alike ≡ true) × IsSome client × IsSome server)
