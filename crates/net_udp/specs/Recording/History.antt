-- What a reader of a recording holds, and for what bytes and frames it stands.
use Rattle.std.specs.Prelude.{◌≡◌, ◌+◌, ℕ, Bool, true, false, ◌⊎◌, List, [], ◌∷◌, ◌++◌, length, map, reverse, Option, Some, None, Result, Ok, Err, MatchBool}
use Rattle.std.specs.Io.KnownBytes.{Consumes}
use Rattle.net_udp.specs.Copies.{Packet as Recorded, RecentState}
use Rattle.net_udp.specs.Copies.Recently as copies
use Rattle.net_udp.specs.Fragments.{Sets}
use Rattle.net_pcap.specs.{FrameParts, FrameState, ReaderState, Memory, PcapFault}
use Rattle.net_streams.specs.{Failed, Standing}
use Rattle.net_pcap.specs.History as pcap
use Rattle.net_udp.specs.Recording.Brought.{BroughtState, Takes, Wants}
use Rattle.net_udp.specs.Recording.Alike.{Comes, WantsToHold, is_copy}
use Rattle.net_udp.specs.Recording.Checked.{IsSentOf}
use Rattle.net_udp.specs.Recording.Discards.{IsDiscarded}
use Rattle.net_udp.specs.Recording.Senders.{Knows, Makers, WantsToKnow}
use Rattle.net_udp.specs.declared.recording.likeness.Likeness.{Likeness}
use Rattle.net_udp.specs.declared.recording.sent.Sent.{Sent}

-- ---- the frames of a recording, one after another

-- a frame, whether it is a copy, what it did among the fragments that waited, what waits after it, the packets that came
-- with it and before it, the last one first, what it tells of who sent its datagram, and whether that one's host discarded it
pub record Step : Type 0 where
  pub frame : FrameParts
  pub likeness : Likeness
  pub brought : BroughtState
  pub waits : Sets
  pub came : List Recorded
  pub sent : Option Sent
  pub is_discarded : Bool

-- what waits after some frames, the last of which stands first
abbrev pub waiting : List Step → Sets
waiting [] = []
waiting (step ∷ before) = step.waits

-- the packets that came with some frames
abbrev pub packets_of : List Step → List Recorded
packets_of [] = []
packets_of (step ∷ before) = step.came

-- what some frames told of who sent their datagrams
abbrev pub sent_in : List Step → List (Option Sent)
sent_in history = map (λ step. step.sent) history

-- each frame did so among what waited after those before it, is a copy by their packets, and was discarded by what they told;
-- the first has number 1
abbrev pub IsHistory : List Step → Type 0
IsHistory [] = Unit {0}
IsHistory (step ∷ before) =
    Takes (is_copy step.likeness) (waiting before) step.frame (length before + 1) step.brought step.waits
    × IsHistory before
    × Comes (packets_of before) step.frame step.likeness step.came
    × IsSentOf step.frame step.likeness step.brought.outcome step.sent
    × MatchBool step.is_discarded (IsDiscarded (sent_in before) step.sent) (IsDiscarded (sent_in before) step.sent → ⊥)

-- the frames, the first of them first
abbrev pub frames_of : List Step → List FrameParts
frames_of history = reverse (map (λ step. step.frame) history)

-- ---- the reader

-- a frame as a reader fills it, whether it is a copy, what it did, what it tells of who sent its datagram, and whether that
-- one's host discarded it
pub record EventState : Type 0 where
  pub frame : FrameState
  pub likeness : Likeness
  pub brought : BroughtState
  pub sent : Option Sent
  pub is_discarded : Bool

-- the reader of frames, the last packets, what waits, who makes the checksums of hosts, and the end of memory that ended
-- the reading
pub record RecordingState : Type 0 where
  pub frames : ReaderState
  pub recent : RecentState
  pub waiting : Sets
  pub senders : Makers
  pub refused : Option PcapFault

abbrev pub standing_by : Option PcapFault → Standing PcapFault → Standing PcapFault
standing_by None standing = standing
standing_by (Some fault) standing = Failed fault

-- whether it goes on
abbrev pub standing_of : RecordingState → Standing PcapFault
standing_of r = standing_by r.refused r.frames.standing

-- memory is wanted for the frame that comes next: to hold its packet, or for the fragment that it is, and no copy
abbrev pub WantsNext : List Recorded → Sets → FrameParts → ℕ → Type 0
WantsNext before waits frame number =
    WantsToHold before frame
    ⊎ ((likeness : Likeness) × (came : List Recorded) × Comes before frame likeness came × (is_copy likeness ≡ false) × Wants waits frame number)

-- what the reader took and holds, by whether memory was refused; it was, then, for the frame that came next
abbrev pub RefusedTells : Option PcapFault → RecordingState → List ℕ → List Step → Type 0
RefusedTells None r bytes history =
    pcap.StandsFor r.frames bytes (frames_of history) × (r.waiting ≡ waiting history) × copies.StandsFor r.recent (packets_of history) × Knows r.senders (sent_in history)
RefusedTells (Some fault) r bytes history =
    (frame : FrameParts) × pcap.StandsFor r.frames bytes (frames_of history ++ frame ∷ []) × (WantsNext (packets_of history) (waiting history) frame (length history + 1) ⊎ WantsToKnow (sent_in history) frame) × (fault ≡ record { kind = Memory; frame = length history + 1 })

-- The reader stands for a history: it took these bytes, whose frames did so, holds what waits after them and the last packets,
-- and knows of hosts what they told.
abbrev pub StandsFor : RecordingState → List ℕ → List Step → Type 0
StandsFor r bytes history = IsHistory history × RefusedTells r.refused r bytes history

-- the history with the frame that was read
abbrev pub with_step : List Step → Result Bool PcapFault → EventState → Sets → List Recorded → List Step
with_step history (Ok true) event waits came = record { frame = event.frame.parts; likeness = event.likeness; brought = event.brought; waits = waits; came = came; sent = event.sent; is_discarded = event.is_discarded } ∷ history
with_step history (Ok false) event waits came = history
with_step history (Err fault) event waits came = history

-- bytes were taken, and with them the reader stands for the history that the answer adds to
pub record Continues (new : RecordingState) (before after : Option (List ℕ)) (result : Result Bool PcapFault) (event : EventState) (bytes : List ℕ) (history : List Step) : Type 0 where
  pub taken : List ℕ
  pub came : List Recorded
  pub consumed : Consumes before after taken
  pub stands : StandsFor new (bytes ++ taken) (with_step history result event new.waiting came)
