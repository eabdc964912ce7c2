-- What is said of a transfer at a point where it was judged, and of which datagram. Lists have the newest first.
use Rattle.std.specs.Prelude.{◌≡◌, ◌⊎◌, ◌||◌, ℕ, Bool, true, false, List, length, Option, Some, None, option_map, Ok, Err}
use Rattle.tftp_packet.specs.{Rollover}
use Rattle.law_model.specs.{EndRule}
use Rattle.law_end.specs.{Rule}
use Rattle.law_end.specs.declared.rule.Rule.TheVariants as rule
use Rattle.law_tap.specs.{StandsAtEnd, StandsOfItsOwn}
use Rattle.tftp_judge.specs.declared.refusal.Refusal.TheVariants as refusal
use Rattle.judge_tap.specs.declared.refusal.TapRefusal.TheVariants as tap
use Rattle.audit_flows.specs.Lines.{Placed, same_endpoint}
use Rattle.audit_flows.specs.{Transfer}
use Rattle.audit_views.specs.Parties.{host_name}
use Rattle.audit_views.specs.Views.{IsFoundBy, client_capture, client_header, server_capture, server_header}
use Rattle.audit_recording.specs.Between.{IsBetweenFoundBy, between_capture, sides_of}
use Rattle.audit_recording.specs.Blame.Facts.{blamed_as, refused_between, refused_in}
use Rattle.audit_recording.specs.Blame.Frames.{Carried, whole_of}
use Rattle.audit_recording.specs.Rows.Told.{said_between, said_of}
use Rattle.audit_recording.specs.declared.blame.blame.Blamed.{Blamed}
use Rattle.audit_recording.specs.declared.blame.named.Named.{Named}
use Rattle.audit_recording.specs.declared.rows.row.Point.{Point}
use Rattle.audit_recording.specs.declared.rows.row.Point.TheVariants as point
use Rattle.audit_recording.specs.declared.rows.said.Said.{Said}
use Rattle.audit_rows.specs.declared.found.Found.{Found}
use Rattle.audit_rows.specs.declared.found.Found.TheVariants.{AtEnd, Between}
use Rattle.audit_rows.specs.declared.viewed.Viewed.{Viewed}

-- ---- what was found

-- what is said there, where the refused datagram is in this frame
abbrev pub said_by : Found → Option ℕ → Said
said_by (AtEnd found) frame = said_of found frame
said_by (Between found) frame = said_between found frame

-- It is lawful, and no ERROR ended it, but it is not whole.
abbrev pub stops_early : Found → Bool
stops_early (AtEnd (Err (refusal.Incomplete count))) = true
stops_early (Between (Err (tap.Incomplete count))) = true
stops_early _ = false

-- an ERROR ended it (RFC 1350, section 7)
abbrev pub is_aborted : Found → Bool
is_aborted (AtEnd (Err (refusal.Aborted by code))) = true
is_aborted (Between (Err (tap.Aborted by code))) = true
is_aborted _ = false

abbrev pub is_cut_short : Found → Bool
is_cut_short found = is_aborted found || stops_early found

-- how many bytes the file has, where the transfer is accepted
abbrev pub bytes_in : Found → Option ℕ
bytes_in (AtEnd (Ok m)) = Some (length m.file)
bytes_in (Between (Ok m)) = Some (length m.file)
bytes_in _ = None

-- it is a whole transfer
abbrev pub is_whole : Found → Bool
is_whole (AtEnd (Ok m)) = true
is_whole (Between (Ok m)) = true
is_whole _ = false

-- ---- what stands

-- What breaks these rules depends on an option that no datagram of the transfer names: that a block goes back, on the window; that it has a
-- wrong length, or is whole and has the greatest number, on the block size.
abbrev pub IsSureUnnamed : Named → Rule → Type 0
IsSureUnnamed options (rule.Block EndRule.GoneBack) = options.windows ≡ false
IsSureUnnamed options (rule.Block EndRule.BlockLength) = options.sizes ≡ false
IsSureUnnamed options (rule.Block EndRule.BeyondBlock65535) = options.sizes ≡ false
IsSureUnnamed options _ = ⊥

-- A refusal by this rule at an end is certain whatever datagrams were missed: at a server, which knows its client by the request; at a
-- client that has gone on with its server by then; and else of what a client sent itself.
abbrev pub IsSureAt : Point → Transfer → Named → Option Blamed → Rule → Type 0
IsSureAt point.Server x options blamed broken = StandsAtEnd broken ⊎ IsSureUnnamed options broken
IsSureAt point.Client x options (Some b) broken =
    ((b.has_gone_on ≡ true) × (StandsAtEnd broken ⊎ IsSureUnnamed options broken))
    ⊎ ((same_endpoint b.source x.client ≡ true) × (StandsOfItsOwn broken ⊎ IsSureUnnamed options broken))
IsSureAt _ x options blamed broken = ⊥

-- Of what is refused it is known whether that stands by the transfer's own datagrams, whatever others were missed: between the ends as the
-- judge there tells it, and at an end that it does, where it is sure by its rule. Of all else nothing is known.
abbrev pub IsStandingAlone : Point → Transfer → Named → Option Blamed → Found → Option Bool → Type 0
IsStandingAlone at x options blamed (Between (Err (tap.Unlawful number broken told))) alone = alone ≡ told
IsStandingAlone at x options blamed (AtEnd (Err (refusal.Unlawful number broken))) alone =
    (IsSureAt at x options blamed broken × (alone ≡ Some true)) ⊎ ((IsSureAt at x options blamed broken → ⊥) × (alone ≡ None))
IsStandingAlone at x options blamed _ alone = alone ≡ None

-- That it stands is said where its client asked once: else, where frames are missing, a datagram of another transfer may count as its own.
abbrev pub where_asked_once : Bool → Option Bool → Option Bool
where_asked_once false alone = alone
where_asked_once true (Some true) = None
where_asked_once true alone = alone

-- So it is said of what is refused whether that stands, whatever datagrams were missed.
abbrev pub IsStandingAs : Point → Transfer → Bool → Named → Option Blamed → Found → Option Bool → Type 0
IsStandingAs at x has_asked_more options blamed found stands =
    (alone : Option Bool) × IsStandingAlone at x options blamed found alone × (stands ≡ where_asked_once has_asked_more alone)

-- Where block numbers begin again nothing is said of it: a block that was missed changes how later numbers are read.
abbrev pub IsStandingBy : Option Rollover → Point → Transfer → Bool → Named → Option Blamed → Found → Option Bool → Type 0
IsStandingBy None at x has_asked_more options blamed found stands = IsStandingAs at x has_asked_more options blamed found stands
IsStandingBy (Some rollover) at x has_asked_more options blamed found stands = stands ≡ None

abbrev pub IsStanding : Point → Transfer → Bool → Named → Viewed → Option Bool → Type 0
IsStanding at x has_asked_more options v stands = IsStandingBy v.rollover at x has_asked_more options v.blamed v.found stands

-- ---- the verdict at a point

-- what was found at a point, if the transfer was judged there
abbrev pub found_in : Option Viewed → Option Found
found_in view = option_map (λ v. v.found) view

-- what is said there; the refused datagram is the blamed one
abbrev pub said_in : Viewed → Said
said_in v = said_by v.found (option_map (λ b. b.frame) v.blamed)

-- the number of the refused datagram among those that were seen there, from 1
abbrev pub number_in : Found → Option ℕ
number_in (AtEnd found) = refused_in found
number_in (Between found) = refused_between found

-- It is the verdict on what the point saw of the whole recording, by what comes after block 65535.
abbrev pub IsFoundAt : Option Rollover → Point → Transfer → List Placed → Found → Type 0
IsFoundAt rollover point.Client x whole (AtEnd found) = IsFoundBy rollover (client_header x) (client_capture host_name x whole) found
IsFoundAt rollover point.Server x whole (AtEnd found) = IsFoundBy rollover (server_header x) (server_capture host_name x whole whole) found
IsFoundAt rollover point.Between x whole (Between found) = IsBetweenFoundBy rollover (sides_of x whole) (between_capture x whole) found
IsFoundAt rollover _ x whole _ = ⊥

-- And the blamed datagram is the one of the refusal's number among those that were seen there: its frame, its source, its facts.
pub record IsViewAt (at : Point) (x : Transfer) (named : List ℕ) (carried : List Carried) (v : Viewed) : Type 0 where
  pub found : IsFoundAt v.rollover at x (whole_of named carried) v.found
  pub blamed : v.blamed ≡ blamed_as at x named carried (number_in v.found)

-- And it is by this rollover, or by none.
abbrev pub IsViewBy : Option Rollover → Point → Transfer → List ℕ → List Carried → Viewed → Type 0
IsViewBy rollover at x named carried v = (v.rollover ≡ rollover) × IsViewAt at x named carried v
