-- Which datagrams were left out, since their hosts discarded them, and may have been of a transfer. Lists have the newest first.
use Rattle.std.specs.Prelude.{◌≡◌, ◌||◌, ◌+◌, nat_le, ℕ, Bool, List, [], ◌∷◌, Option, Some, None, option_map, if◌then◌else◌}
use Rattle.std.specs.BTreeMap.{get}
use Rattle.audit_flows.specs.{Address, Endpoint, V4}
use Rattle.audit_flows.specs.Lines.{endpoint_cmp, same_endpoint, silence}
use Rattle.audit_recording.specs.Losses.Kept.{lesser}
use Rattle.audit_recording.specs.declared.blame.trail.Trail.{Trail}
use Rattle.audit_recording.specs.declared.session.discards.Discarded.{Discarded}
use Rattle.audit_recording.specs.declared.session.discards.Discards.{Discards}

-- ---- what was left out as discarded

-- a datagram that was left out, by its ends, its frame and its time in nanoseconds since 1970
pub record Gone : Type 0 where
  pub source : Endpoint
  pub target : Endpoint
  pub frame : ℕ
  pub time : ℕ

-- it came from this endpoint or went there
abbrev pub is_at_end : Endpoint → Gone → Bool
is_at_end e g = same_endpoint g.source e || same_endpoint g.target e

-- the newest one there
abbrev pub newest_at : Endpoint → List Gone → Option Gone
newest_at e [] = None
newest_at e (g ∷ older) = if is_at_end e g then Some g else newest_at e older

-- the frame of one, where it may have been of a transfer that is opened at this time: at most 300 s later
abbrev pub before_opening : ℕ → Option Gone → Option ℕ
before_opening time None = None
before_opening time (Some g) = if nat_le time (g.time + silence) then Some g.frame else None

-- ---- what is kept

-- the transfer, of which this frame was discarded too: the first one counts
abbrev pub discarding : Option ℕ → Trail → Trail
discarding frame t = record t { discarded = lesser t.discarded frame }

abbrev pub kept_of : Gone → Discarded
kept_of g = record { frame = g.frame; time = g.time }

-- They stand for what was left out.
abbrev pub AreDiscardsAfter : Discards → List Gone → Type 0
AreDiscardsAfter d gone = (e : Endpoint) → get endpoint_cmp d.newest e ≡ option_map kept_of (newest_at e gone)

-- ---- worked

-- host 192.0.2.n
abbrev pub worked_host : ℕ → Address
worked_host n = V4 (192 ∷ 0 ∷ 2 ∷ n ∷ [])

-- a datagram of port 2000 at host 1 to port 69 at host 2, in frame 7 at second 10
abbrev pub worked_gone : Gone
worked_gone = record {
  source = record { port = 2000; address = worked_host 1 };
  target = record { port = 69; address = worked_host 2 };
  frame = 7;
  time = 10000000000;
}
