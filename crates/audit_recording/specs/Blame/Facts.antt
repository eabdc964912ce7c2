-- What a refusal is told by: the frame that it is blamed on, what makes it doubtful there, and what it is certain by. Lists have the newest
-- first.
use Rattle.std.specs.Prelude.{ℕ, Bool, ◌&&◌, not, ◌∷◌, List, reverse, Option, Some, None, option_map, Result, Err}
use Rattle.std.specs.List.{list_any}
use Rattle.law_model.specs.Model.{Meaning}
use Rattle.law_end.specs.{Rule}
use Rattle.law_tap.specs.{AreApart}
use Rattle.tftp_packet.specs.{Rollover}
use Rattle.tftp_judge.specs.{IsSaidBy, Refusal, Unlawful}
use Rattle.judge_tap.specs.{TapRefusal}
use Rattle.judge_tap.specs.declared.refusal.TapRefusal.TheVariants as tap
use Rattle.audit_flows.specs.Lines.{Placed, begins_request, begins_unknown_id, comes_in, follows_unknown_id, is_late, is_of, same_endpoint, says_first_word, speaks_first}
use Rattle.audit_flows.specs.{Transfer}
use Rattle.audit_flows.specs.Transfers.{comes_of_earlier, is_beside, some_of, tells_strays}
use Rattle.audit_views.specs.Parties.{host_name}
use Rattle.audit_views.specs.Views.{client_capture, client_header, server_capture, server_header}
use Rattle.audit_recording.specs.Between.{IsBetweenFoundBy, between_capture, sides_of}
use Rattle.audit_recording.specs.declared.blame.blame.Blamed.{Blamed}
use Rattle.audit_recording.specs.declared.rows.row.Point.{Point}
use Rattle.audit_recording.specs.declared.rows.row.Point.TheVariants.{Client, Server, Between}
use Rattle.audit_recording.specs.Blame.Frames.{Carried, Framed, seen_as}

-- What a client says to nobody but its server: no request, which goes out before anybody has answered, and no ERROR 5, which may answer
-- a stray (RFC 1350, section 4).
abbrev pub is_for_server : List ℕ → Bool
is_for_server payload = not (begins_request payload) && not (begins_unknown_id payload)

-- by it the transfer's client goes on with its server
abbrev pub goes_on : Transfer → Placed → Bool
goes_on x p = is_of x.number p && (same_endpoint p.datagram.source x.client && is_for_server p.datagram.payload)

-- it has gone on by one of these
abbrev pub has_gone_on : Transfer → List Placed → Bool
has_gone_on x placed = list_any (goes_on x) placed

-- the facts of a datagram, as one of this transfer
abbrev pub blamed_of : Transfer → Framed → Blamed
blamed_of x f = record {
  frame = f.carried.frame;
  is_late = some_of x.number is_late (f.placed ∷ f.before);
  is_beside = is_beside f.placed;
  is_answered = some_of x.number comes_in (f.placed ∷ f.before);
  has_gone_on = has_gone_on x (f.placed ∷ f.before);
  speaks_first = speaks_first f.placed f.before;
  says_first_word = some_of x.number says_first_word (f.placed ∷ f.before);
  follows_unknown_id = follows_unknown_id f.placed f.before;
  tells_strays = tells_strays x.number f.placed f.before;
  comes_of_earlier = comes_of_earlier x.number f.placed f.before;
  source = f.placed.datagram.source;
}

-- ---- the datagram that a verdict refuses

-- its number in the view, from 1
abbrev pub refused_in : Result Meaning Refusal → Option ℕ
refused_in (Err (Unlawful number rule)) = Some number
refused_in said = None

-- the same between the ends
abbrev pub refused_between : Result Meaning TapRefusal → Option ℕ
refused_between (Err (tap.Unlawful number rule stands)) = Some number
refused_between said = None

-- the facts of the datagram of that number that was seen there; none of none
abbrev pub blamed_as : Point → Transfer → List ℕ → List Carried → Option ℕ → Option Blamed
blamed_as point x named carried None = None
blamed_as point x named carried (Some number) = option_map (blamed_of x) (seen_as point x.number named carried number)

-- Of the whole recording it is said at the point that the datagram of that number, the first that does, breaks the rule, by what
-- comes after block 65535. Between the ends nothing is said of a client that asked itself.
abbrev pub IsRefusedAt : Option Rollover → Point → Transfer → List Placed → ℕ → Rule → Type 0
IsRefusedAt rollover Client x whole number rule = IsSaidBy rollover (Err (Unlawful number rule)) (client_header x) (reverse (client_capture host_name x whole))
IsRefusedAt rollover Server x whole number rule = IsSaidBy rollover (Err (Unlawful number rule)) (server_header x) (reverse (server_capture host_name x whole whole))
IsRefusedAt rollover Between x whole number rule =
    AreApart (sides_of x whole) × (stands : Option Bool) × IsBetweenFoundBy rollover (sides_of x whole) (between_capture x whole) (Err (tap.Unlawful number rule stands))
