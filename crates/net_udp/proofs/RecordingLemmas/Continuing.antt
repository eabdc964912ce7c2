-- A reader of a recording stands for its history with the frame that it read.
use Rattle.std.proofs.Common.{◌≡◌, ◌⊎◌, ℕ, ◌+◌, Bool, true, false, MatchBool, List, [], ◌∷◌, ◌++◌, length, map, Option, Some, None, Result, Ok, Err, refl, sym, ap, ◌∙◌, subst, append-nil}
use Rattle.std.proofs.KnownBytes.{Consumes-nil}
use Rattle.std.proofs.lemmas.List.{length-map, length-reverse, reverse-append}
use Rattle.std.specs.Io.KnownBytes.{prepend_known}
use Rattle.net_udp.specs.Copies.{Packet as Recorded, RecentState}
use Rattle.net_udp.specs.Copies.Recently as copies
use Rattle.net_udp.specs.Fragments.{Sets}
use Rattle.net_pcap.specs.{FrameParts, FrameState, ReaderState, StandingTells, Memory, PcapFault}
use Rattle.net_streams.specs.Streams.{KeepsAnswer}
use Rattle.net_streams.specs.{Open, Standing}
use Rattle.net_pcap.specs.History as pcap
use Rattle.net_udp.specs.Recording.{IsDiscarded, IsHistory, IsSentOf, Knows, Makers, Takes, Continues, EventState, RecordingState, RefusedTells, StandsFor, Step, WantsNext, WantsToKnow, frames_of, packets_of, sent_in, waiting, Comes, is_copy}
use Rattle.net_udp.specs.declared.recording.sent.Sent.{Sent}
use Rattle.net_udp.specs.declared.recording.likeness.Likeness.{Likeness}

-- the frame comes, and the packets that are held are the last ones with its own
abbrev pub Coming : RecentState → FrameParts → Likeness → RecentState → Type 0
Coming old frame likeness new = (before : List Recorded) → copies.StandsFor old before → (came : List Recorded) × Comes before frame likeness came × copies.StandsFor new came

-- what a frame tells is discarded by what was known before it, and is known with that
abbrev pub Discarding : Makers → Option Sent → Bool → Type 0
Discarding old sent is_discarded = (before : List (Option Sent)) → Knows old before → MatchBool is_discarded (IsDiscarded before sent) (IsDiscarded before sent → ⊥)

abbrev pub Knowing : Makers → Option Sent → Makers → Type 0
Knowing old sent new = (before : List (Option Sent)) → Knows old before → Knows new (sent ∷ before)

pub answers_again : (r : RecordingState) (rest : Option (List ℕ)) (event : EventState) (bytes : List ℕ) (history : List Step) (fault : PcapFault) → StandsFor r bytes history → Continues r rest rest (Err fault) event bytes history
answers_again r rest event bytes history fault stands = record {
  taken = [];
  came = [];
  consumed = Consumes-nil rest;
  stands = subst (λ (b : List ℕ). StandsFor r b history) (sym (append-nil bytes)) stands;
}

frames_with : (step : Step) (history : List Step) → frames_of (step ∷ history) ≡ frames_of history ++ step.frame ∷ []
frames_with step history = reverse-append (step.frame ∷ []) (map (λ (s : Step). s.frame) history)

frames_counted : (history : List Step) → length (frames_of history) ≡ length history
frames_counted history = length-reverse (map (λ (s : Step). s.frame) history) ∙ length-map history (λ (s : Step). s.frame)

-- a reader that gave a frame had counted those before it
counted_by : (standing : Standing PcapFault) (r : ReaderState) (bytes : List ℕ) (frames : List FrameParts) → KeepsAnswer standing (Ok true) → StandingTells standing r bytes frames → r.count ≡ length frames
counted_by Open r bytes frames keeps tells = tells.1
counted_by _ r bytes frames keeps tells = cc

open_tells : (refused : Option PcapFault) (r : RecordingState) (bytes : List ℕ) (history : List Step) → refused ≡ None → RefusedTells refused r bytes history → pcap.StandsFor r.frames bytes (frames_of history) × (r.waiting ≡ waiting history) × copies.StandsFor r.recent (packets_of history) × Knows r.senders (sent_in history)
open_tells None r bytes history e tells = tells
open_tells (Some fault) r bytes history e tells = cc

tells_open : (refused : Option PcapFault) (r : RecordingState) (bytes : List ℕ) (history : List Step) → refused ≡ None → pcap.StandsFor r.frames bytes (frames_of history) × (r.waiting ≡ waiting history) × copies.StandsFor r.recent (packets_of history) × Knows r.senders (sent_in history) → RefusedTells refused r bytes history
tells_open None r bytes history e tells = tells
tells_open (Some fault) r bytes history e tells = cc

continued_from : (old new : RecordingState) (before after : Option (List ℕ)) (event : EventState) (bytes : List ℕ) (history : List Step)
    → old.refused ≡ None → new.refused ≡ None
    → ((bytes : List ℕ) (frames : List FrameParts) → pcap.StandsFor old.frames bytes frames → pcap.Continues new.frames before after (Ok true) event.frame.parts bytes frames)
    → KeepsAnswer old.frames.standing (Ok true) → event.frame.number ≡ old.frames.count + 1
    → Coming old.recent event.frame.parts event.likeness new.recent
    → Takes (is_copy event.likeness) old.waiting event.frame.parts event.frame.number event.brought new.waiting
    → IsSentOf event.frame.parts event.likeness event.brought.outcome event.sent → Discarding old.senders event.sent event.is_discarded → Knowing old.senders event.sent new.senders
    → StandsFor old bytes history → Continues new before after (Ok true) event bytes history
continued_from old new before after event bytes history going still continues keeps number comes takes sent discards knows stands =
    let tells = open_tells old.refused old bytes history going stands.1 in
    let held = comes (packets_of history) tells.2 in
    let step : Step = record { frame = event.frame.parts; likeness = event.likeness; brought = event.brought; waits = new.waiting; came = held.0; sent = event.sent; is_discarded = event.is_discarded } in
    let more = continues bytes (frames_of history) tells.0 in
    let counted : old.frames.count ≡ length history = counted_by old.frames.standing old.frames bytes (frames_of history) keeps tells.0 ∙ frames_counted history in
    let numbered : event.frame.number ≡ length history + 1 = number ∙ ap (λ n. n + 1) counted in
    let took : Takes (is_copy event.likeness) (waiting history) event.frame.parts (length history + 1) event.brought new.waiting =
    subst (λ (sets : Sets). Takes (is_copy event.likeness) sets event.frame.parts (length history + 1) event.brought new.waiting) tells.1
    (subst (λ (n : ℕ). Takes (is_copy event.likeness) old.waiting event.frame.parts n event.brought new.waiting) numbered takes) in
    let gave : pcap.StandsFor new.frames (bytes ++ more.taken) (frames_of (step ∷ history)) =
    subst (λ (frames : List FrameParts). pcap.StandsFor new.frames (bytes ++ more.taken) frames) (sym (frames_with step history)) more.stands in
    record {
      taken = more.taken;
      came = held.0;
      consumed = more.consumed;
      stands = ((took, stands.0, held.1, sent, discards (sent_in history) tells.3), tells_open new.refused new (bytes ++ more.taken) (step ∷ history) still (gave, refl, held.2, knows (sent_in history) tells.3));
    }

-- no frame was read, and all else stays
no_step : (new : RecordingState) (before after : Option (List ℕ)) (result : Result Bool PcapFault) (gave : FrameState) (event : EventState) (bytes : List ℕ) (history : List Step) → (result ≡ Ok true → ⊥) → IsHistory history → new.refused ≡ None
    → pcap.Continues new.frames before after result gave.parts bytes (frames_of history)
    → (new.waiting ≡ waiting history) × copies.StandsFor new.recent (packets_of history) × Knows new.senders (sent_in history) → Continues new before after result event bytes history
no_step new before after (Ok true) gave event bytes history none became going more tells = absurd (none refl)
no_step new before after (Ok false) gave event bytes history none became going more tells = record {
  taken = more.taken;
  came = [];
  consumed = more.consumed;
  stands = (became, tells_open new.refused new (bytes ++ more.taken) history going (more.stands, tells.0, tells.1, tells.2));
}
no_step new before after (Err fault) gave event bytes history none became going more tells = record {
  taken = more.taken;
  came = [];
  consumed = more.consumed;
  stands = (became, tells_open new.refused new (bytes ++ more.taken) history going (more.stands, tells.0, tells.1, tells.2));
}

-- the same of the reader as its caller sees it, and of the frame as it was read and taken
pub continued : (entry old new : RecordingState) (rest after : Option (List ℕ)) (result : Result Bool PcapFault) (gave : FrameState) (event : EventState) (bytes : List ℕ) (history : List Step) → old ≡ entry
    → old.refused ≡ None → new.refused ≡ None → result ≡ Ok true → event.frame ≡ gave
    → ((bytes : List ℕ) (frames : List FrameParts) → pcap.StandsFor old.frames bytes frames → pcap.Continues new.frames (prepend_known old.frames.pieces.ahead rest) after result gave.parts bytes frames)
    → KeepsAnswer old.frames.standing result → (result ≡ Ok true → gave.number ≡ old.frames.count + 1)
    → Coming old.recent gave.parts event.likeness new.recent
    → Takes (is_copy event.likeness) old.waiting gave.parts gave.number event.brought new.waiting
    → IsSentOf gave.parts event.likeness event.brought.outcome event.sent → Discarding old.senders event.sent event.is_discarded → Knowing old.senders event.sent new.senders
    → StandsFor entry bytes history → Continues new (prepend_known entry.frames.pieces.ahead rest) after (Ok true) event bytes history
continued entry old new rest after result gave event bytes history is going still good same_frame continues keeps number comes takes sent discards knows =
    let before = prepend_known old.frames.pieces.ahead rest in
    subst (λ (r : RecordingState). StandsFor r bytes history → Continues new (prepend_known r.frames.pieces.ahead rest) after (Ok true) event bytes history) is
    (λ stands. continued_from old new before after event bytes history going still
    (λ b f s. subst (λ (x : FrameState). pcap.Continues new.frames before after (Ok true) x.parts b f) (sym same_frame) (subst (λ (r : Result Bool PcapFault). pcap.Continues new.frames before after r gave.parts b f) good (continues b f s)))
    (subst (λ (r : Result Bool PcapFault). KeepsAnswer old.frames.standing r) good keeps)
    (ap (λ (x : FrameState). x.number) same_frame ∙ number good)
    (subst (λ (x : FrameState). Coming old.recent x.parts event.likeness new.recent) (sym same_frame) comes)
    (subst (λ (x : FrameState). Takes (is_copy event.likeness) old.waiting x.parts x.number event.brought new.waiting) (sym same_frame) takes)
    (subst (λ (x : FrameState). IsSentOf x.parts event.likeness event.brought.outcome event.sent) (sym same_frame) sent) discards knows
    stands)

-- the same where no frame was read
pub passed_on : (entry old : RecordingState) (frames : ReaderState) (rest after : Option (List ℕ)) (given result : Result Bool PcapFault) (gave : FrameState) (event : EventState) (bytes : List ℕ) (history : List Step) → old ≡ entry
    → old.refused ≡ None → given ≡ result → (result ≡ Ok true → ⊥)
    → ((bytes : List ℕ) (before : List FrameParts) → pcap.StandsFor old.frames bytes before → pcap.Continues frames (prepend_known old.frames.pieces.ahead rest) after given gave.parts bytes before)
    → StandsFor entry bytes history
    → Continues (record { frames = frames; recent = old.recent; waiting = old.waiting; senders = old.senders; refused = old.refused }) (prepend_known entry.frames.pieces.ahead rest) after result event bytes history
passed_on entry old frames rest after given result gave event bytes history is going same none continues =
    let new : RecordingState = record { frames = frames; recent = old.recent; waiting = old.waiting; senders = old.senders; refused = old.refused } in
    subst (λ (r : RecordingState). StandsFor r bytes history → Continues new (prepend_known r.frames.pieces.ahead rest) after result event bytes history) is
    (λ stands.
    let tells = open_tells old.refused old bytes history going stands.1 in
    no_step new (prepend_known old.frames.pieces.ahead rest) after result gave event bytes history none stands.0 going
    (subst (λ (r : Result Bool PcapFault). pcap.Continues frames (prepend_known old.frames.pieces.ahead rest) after r gave.parts bytes (frames_of history)) same (continues bytes (frames_of history) tells.0)) (tells.1, tells.2, tells.3))

-- a reader that was refused memory for the frame that was read
pub refused_for : (entry old new : RecordingState) (rest after : Option (List ℕ)) (result : Result Bool PcapFault) (gave : FrameState) (event : EventState) (fault : PcapFault) (bytes : List ℕ) (history : List Step) → old ≡ entry
    → old.refused ≡ None → new.refused ≡ Some fault → result ≡ Ok true → fault ≡ record { kind = Memory; frame = gave.number }
    → ((bytes : List ℕ) (frames : List FrameParts) → pcap.StandsFor old.frames bytes frames → pcap.Continues new.frames (prepend_known old.frames.pieces.ahead rest) after result gave.parts bytes frames)
    → KeepsAnswer old.frames.standing result → (result ≡ Ok true → gave.number ≡ old.frames.count + 1)
    → ((came : List Recorded) (before : List (Option Sent)) → copies.StandsFor old.recent came → Knows old.senders before → WantsNext came old.waiting gave.parts gave.number ⊎ WantsToKnow before gave.parts)
    → StandsFor entry bytes history → Continues new (prepend_known entry.frames.pieces.ahead rest) after (Err fault) event bytes history
refused_for entry old new rest after result gave event fault bytes history is going now good told continues keeps number wants =
    let before = prepend_known old.frames.pieces.ahead rest in
    subst (λ (r : RecordingState). StandsFor r bytes history → Continues new (prepend_known r.frames.pieces.ahead rest) after (Err fault) event bytes history) is
    (λ stands.
    let tells = open_tells old.refused old bytes history going stands.1 in
    let more = subst (λ (r : Result Bool PcapFault). pcap.Continues new.frames before after r gave.parts bytes (frames_of history)) good (continues bytes (frames_of history) tells.0) in
    let counted : old.frames.count ≡ length history = counted_by old.frames.standing old.frames bytes (frames_of history) (subst (λ (r : Result Bool PcapFault). KeepsAnswer old.frames.standing r) good keeps) tells.0 ∙ frames_counted history in
    let numbered : gave.number ≡ length history + 1 = number good ∙ ap (λ n. n + 1) counted in
    let wanted : WantsNext (packets_of history) (waiting history) gave.parts (length history + 1) ⊎ WantsToKnow (sent_in history) gave.parts =
    subst (λ (n : ℕ). WantsNext (packets_of history) (waiting history) gave.parts n ⊎ WantsToKnow (sent_in history) gave.parts) numbered
    (subst (λ (sets : Sets). WantsNext (packets_of history) sets gave.parts gave.number ⊎ WantsToKnow (sent_in history) gave.parts) tells.1 (wants (packets_of history) (sent_in history) tells.2 tells.3)) in
    record {
      taken = more.taken;
      came = [];
      consumed = more.consumed;
      stands = (stands.0, subst (λ (o : Option PcapFault). RefusedTells o new (bytes ++ more.taken) history) (sym now) (gave.parts, more.stands, wanted, told ∙ ap (λ (n : ℕ). record { kind = Memory; frame = n }) numbered));
    })
