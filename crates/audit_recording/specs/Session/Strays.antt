-- What datagrams of no transfer tell: that a transfer may have begun before the recording, and at which ports something is asked for. Lists
-- of datagrams have the newest first.
use Rattle.std.specs.Prelude.{◌≡◌, ◌==◌, ◌&&◌, ◌||◌, ◌+◌, min, ℕ, Bool, false, List, [], ◌∷◌, filter, map, nat_le, take}
use Rattle.audit_flows.specs.{Endpoint}
use Rattle.audit_flows.specs.Lines.{same_endpoint}
use Rattle.audit_recording.specs.Session.Firsts.{firsts}
use Rattle.audit_recording.specs.Session.Told.{count_of}
use Rattle.audit_recording.specs.declared.blame.passing.Passing.{Passing}
use Rattle.audit_recording.specs.declared.session.begun.Begun.{Begun}
use Rattle.audit_recording.specs.declared.session.begun.Pair.{Pair}

-- a datagram of no transfer, by its ends, its payload and its frame
pub record Stray : Type 0 where
  pub source : Endpoint
  pub target : Endpoint
  pub payload : List ℕ
  pub frame : ℕ

abbrev pub stray_of : Passing → Stray
stray_of p = record { source = p.source; target = p.target; payload = p.payload.now; frame = p.frame }

abbrev pub stray_frames : List Stray → List ℕ
stray_frames strays = map (λ d. d.frame) strays

-- ---- what looks like a transfer that began before the recording

-- it begins as a block, an ACK, an ERROR or an OACK does: with an opcode from 3 to 6 and two bytes more (RFC 1350, section 5; RFC 2347)
abbrev pub goes_on : List ℕ → Bool
goes_on (high ∷ low ∷ third ∷ fourth ∷ rest) = (high == 0) && (nat_le 3 low && nat_le low 6)
goes_on _ = false

abbrev pub going_on : List Stray → List Stray
going_on strays = filter (λ d. goes_on d.payload) strays

-- it passed between these two endpoints, one way or the other
abbrev pub passed_between : Endpoint → Endpoint → Stray → Bool
passed_between one other d = (same_endpoint d.source one && same_endpoint d.target other) || (same_endpoint d.source other && same_endpoint d.target one)

-- it passed between the two endpoints of that one
abbrev pub passed_there : Stray → Stray → Bool
passed_there d first = passed_between first.source first.target d

-- the frames of all that passed between the two endpoints of this one
abbrev pub frames_there : Stray → List Stray → List ℕ
frames_there first strays = stray_frames (filter (λ d. passed_there d first) strays)

-- the newest, which stands first
abbrev pub newest_in : List ℕ → ℕ
newest_in [] = 0
newest_in (frame ∷ older) = frame

-- what is told of two endpoints, by all that passed between them: how many, the first, with its source and its target, and the last
abbrev pub pair_of : List Stray → Stray → Pair
pair_of strays first = record {
  one = first.source;
  other = first.target;
  count = count_of (frames_there first strays);
  first = first.frame;
  last = newest_in (frames_there first strays);
}

-- of each two endpoints between which something goes on, in the order of the first datagrams; the first 16 alone
abbrev pub begun_pairs : List Stray → List Pair
begun_pairs strays = map (pair_of (going_on strays)) (take 16 (firsts passed_there (going_on strays)))

-- They are what is told of these datagrams.
abbrev pub AreBegunOf : Begun → List Stray → Type 0
AreBegunOf b strays = b.pairs.items ≡ begun_pairs strays

-- one more between the two, in that frame; more than can be counted are told as 2^64 - 1
abbrev pub one_more : ℕ → Pair → Pair
one_more frame p = record p { count = min (p.count + 1) 18446744073709551615; last = frame }

-- ---- what looks like a request

-- it begins as a request does, with opcode 1 or 2 and a byte more (RFC 1350, section 5)
abbrev pub asks : List ℕ → Bool
asks (high ∷ low ∷ third ∷ rest) = (high == 0) && ((low == 1) || (low == 2))
asks _ = false

-- the ports to which something went that looks like a request, each once, in the order of the first; the first five alone
abbrev pub asked_ports : List Stray → List ℕ
asked_ports strays = take 5 (firsts (λ port first. first == port) (map (λ d. d.target.port) (filter (λ d. asks d.payload) strays)))
