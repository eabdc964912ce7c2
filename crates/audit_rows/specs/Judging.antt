-- What there is to say of a transfer of a recording. Lists have the newest first.
use Rattle.std.specs.Prelude.{◌≡◌, ◌&&◌, ◌==◌, not, nat_lt, ℕ, Bool, true, false, List, IfSome, Option, Some, None, is_some, map, option_map, Err}
use Rattle.tftp_packet.specs.{End, Client, Server}
use Rattle.law_tap.specs.{AreApart}
use Rattle.tftp_judge.specs.{Refusal}
use Rattle.judge_tap.specs.{TapRefusal}
use Rattle.audit_flows.specs.Lines.{Placed}
use Rattle.audit_flows.specs.{Transfer}
use Rattle.audit_flows.specs.Transfers.{IsDoubtedAfter}
use Rattle.audit_recording.specs.{Judging}
use Rattle.audit_recording.specs.Between.{sides_of}
use Rattle.audit_recording.specs.Blame.Frames.{Carried, view_of, whole_of}
use Rattle.audit_recording.specs.Blame.Kept.{IsTrailOf, sent_of}
use Rattle.audit_recording.specs.Judges.Kept.{Judges, refused_at_client, refused_at_server, refused_between}
use Rattle.audit_recording.specs.Judges.Points.{points_of, rollover_of}
use Rattle.audit_recording.specs.Reasons.Twice.{are_twice}
use Rattle.audit_recording.specs.declared.blame.blame.Blamed.{Blamed}
use Rattle.audit_recording.specs.declared.blame.doubted.Doubted.{Doubted}
use Rattle.audit_recording.specs.declared.blame.trail.Trail.{Trail}
use Rattle.audit_recording.specs.Losses.Kept.{lesser}
use Rattle.audit_recording.specs.Rows.Accusing.{role_at}
use Rattle.audit_recording.specs.Rows.Told.{refused_frame}
use Rattle.audit_recording.specs.declared.blame.stop.Stop.{Stop}
use Rattle.audit_recording.specs.declared.rows.row.Point.{Point}
use Rattle.audit_recording.specs.declared.rows.row.Point.TheVariants as point
use Rattle.audit_recording.specs.declared.rows.row.Row.{Row}
use Rattle.audit_recording.specs.declared.rows.said.Said.{Said}
use Rattle.audit_rows.specs.Viewing.{IsViewBy, found_in, said_in}
use Rattle.audit_rows.specs.declared.found.Found.TheVariants.{AtEnd, Between}
use Rattle.audit_rows.specs.declared.judged.Judged.{Judged}
use Rattle.audit_rows.specs.declared.told.Told.{Told}
use Rattle.audit_rows.specs.declared.viewed.Viewed.{Viewed}

-- What makes a refusal of this transfer doubtful beside the division is what was kept of it: whether all that passed at its client was
-- recorded twice or went one way, its first frame, the first frames that may be copies or several datagrams, are damaged, have wrong checksums or
-- were left out, and whether its client went on with who sent it something first by more than an ERROR.
pub record AreKeptDoubts (d : Doubted) (t : Trail) (x : Transfer) (named : List ℕ) (carried : List Carried) : Type 0 where
  pub number : d.doubts.number ≡ x.number
  pub is_twice : d.is_twice ≡ are_twice (map sent_of (view_of point.Client x.number named carried))
  pub begins : d.begins ≡ t.first
  pub is_one_way : d.is_one_way ≡ not t.is_answered
  pub copied_from : d.copied_from ≡ t.copied_from
  pub damaged : d.damaged ≡ t.damaged
  pub discarded : d.discarded ≡ lesser t.discarded t.spoilt
  pub joined : d.joined ≡ t.joined
  pub goes_on : d.goes_on ≡ t.goes_on
  pub left_out : d.left_out ≡ t.left_out

-- It is what there is to say of this transfer by these datagrams of a recording: a verdict at each point where it is judged, on what
-- the point saw, by what comes after block 65535 there, with the datagram that it refuses. Between the ends there is one of a client
-- that did not ask itself.
pub record IsJudgedOf (j : Judged) (judging : Judging) (x : Transfer) (named : List ℕ) (carried : List Carried) : Type 0 where
  pub trail : IsTrailOf j.trail judging x named carried
  pub doubts : IsDoubtedAfter j.doubted.doubts (whole_of named carried)
  pub kept : AreKeptDoubts j.doubted j.trail x named carried
  pub at_client : is_some j.client ≡ (points_of judging x).client
  pub at_server : is_some j.server ≡ (points_of judging x).server
  pub at_between : is_some j.between ≡ (points_of judging x).between
  pub client : IfSome j.client (IsViewBy (rollover_of judging) point.Client x named carried)
  pub server : IfSome j.server (IsViewBy (rollover_of judging) point.Server x named carried)
  pub between : AreApart (sides_of x (whole_of named carried)) → IfSome j.between (IsViewBy (rollover_of judging) point.Between x named carried)

-- What is known to be refused at a point is told there, whatever memory there is.
pub record AreRefusalsKept (judges : Judges) (j : Judged) : Type 0 where
  pub client : (refusal : Refusal) → refused_at_client judges.client ≡ Some refusal → found_in j.client ≡ Some (AtEnd (Err refusal))
  pub server : (refusal : Refusal) → refused_at_server judges.server ≡ Some refusal → found_in j.server ≡ Some (AtEnd (Err refusal))
  pub between : (refusal : TapRefusal) → refused_between judges.between ≡ Some refusal → found_in j.between ≡ Some (Between (Err refusal))

-- ---- a row

abbrev pub view_at : Point → Judged → Option Viewed
view_at point.Client j = j.client
view_at point.Server j = j.server
view_at point.Between j = j.between

-- what is said at a point, if the transfer was judged there
abbrev pub said_there : Option Viewed → Option Said
said_there view = option_map said_in view

-- one frame, or none
abbrev pub is_one_frame : Option ℕ → Option ℕ → Bool
is_one_frame None None = true
is_one_frame (Some one) (Some other) = one == other
is_one_frame _ _ = false

-- Both ends are told in one row: their verdicts have the same words, and what is refused is in one frame.
abbrev pub are_alike : Option Viewed → Option Viewed → Bool → Bool
are_alike (Some client) (Some server) has_same_words = has_same_words && is_one_frame (refused_frame (said_in client)) (refused_frame (said_in server))
are_alike _ _ has_same_words = false

-- It tells what is said at the row's point, beside what is said between the ends.
pub record IsToldOf (t : Told) (row : Row) (j : Judged) : Type 0 where
  pub place : t.place ≡ row.place
  pub view : view_at row.point j ≡ Some t.view.now
  pub point : t.telling.point ≡ row.point
  pub said : t.telling.said ≡ said_in t.view.now
  pub between : t.telling.between ≡ said_there j.between

abbrev pub is_same_end : End → End → Bool
is_same_end Client Client = true
is_same_end Server Server = true
is_same_end _ _ = false

-- The ERROR came before the refused datagram, and from the other end.
abbrev pub comes_before : Transfer → List Placed → Stop → Option Blamed → Bool
comes_before x whole stop None = false
comes_before x whole stop (Some b) = by (role_at x whole b.source) where
  by : Option End → Bool
  by None = false
  by (Some role) = nat_lt stop.frame b.frame && not (is_same_end stop.role role)
