-- What a frame adds to what has passed.
use Rattle.std.proofs.Common.{◌≡◌, ◌≢◌, ℕ, Bool, List, ◌∷◌, Result, Ok, Err, Option, Some, None, length, map, refl, sym, subst, ◌∙◌, IfSome}
use Rattle.std.specs.Option.{unwrap_or}
use Rattle.net_udp.specs.{Outcome}
use Rattle.net_pcap.specs.{FrameParts, PcapFault}
use Rattle.net_pcap.specs.History.{StandingTells}
use Rattle.net_streams.specs.{Open, Standing}
use Rattle.net_udp.specs.Recording.{IsFateOf, EventState, RecordingState, RefusedTells, Step, frames_of}
use Rattle.net_udp.specs.Recording.History.{standing_by}
use Rattle.std.proofs.lemmas.List.{length-map, length-reverse}
use Rattle.net_udp.specs.{Fate, Likeness}
use Rattle.audit_recording.specs.Audit.{GoesOn, IsNoted, IsOf, IsOfEvent, last_time, time_by}
use Rattle.audit_recording.specs.declared.audit.next.AuditFault.{AuditFault}
use Rattle.audit_recording.specs.declared.audit.next.AuditFault.TheVariants.{Recording, Judges}
use Rattle.audit_recording.specs.declared.audit.next.NextFrame.{NextFrame}
use Rattle.audit_recording.specs.declared.audit.next.NextFrame.TheVariants.{End, Nothing, Datagram}
use Rattle.audit_flows.specs.Lines.{Recorded}

-- the time of a frame, or else that of the datagram before
pub unwrapped : (time : Option ℕ) (older : List Recorded) → unwrap_or time (last_time older) ≡ time_by time older
unwrapped None older = refl
unwrapped (Some time) older = refl

-- what became of the event's frame became of the frame that is it
pub fate_here : (step : Step) (e : EventState) (fate : Fate) → IsOf step e → IsFateOf e.frame.parts e.likeness e.brought.outcome e.is_discarded fate
    → IsFateOf step.frame step.likeness step.brought.outcome step.is_discarded fate
fate_here step e fate of is =
    subst (λ (f : FrameParts). IsFateOf f step.likeness step.brought.outcome step.is_discarded fate) (sym of.frame)
    (subst (λ (l : Likeness). IsFateOf e.frame.parts l step.brought.outcome step.is_discarded fate) (sym of.likeness)
    (subst (λ (o : Option Outcome). IsFateOf e.frame.parts e.likeness o step.is_discarded fate) (sym of.outcome)
    (subst (λ (b : Bool). IsFateOf e.frame.parts e.likeness e.brought.outcome b fate) (sym of.is_discarded) is)))

-- of what was found, more is known
pub if_some : {X : Type 0} (P Q : X → Type 0) (found : Option X) → ((x : X) → P x → Q x) → IfSome found P → IfSome found Q
if_some P Q None more known = known
if_some P Q (Some x) more known = more x known

-- a reader that goes on has counted its frames
pub counted : (refused : Option PcapFault) (r : RecordingState) (bytes : List ℕ) (history : List Step) → RefusedTells refused r bytes history
    → standing_by refused r.frames.standing ≡ Open → r.frames.count ≡ length history
counted None r bytes history tells opened =
    (subst (λ (s : Standing PcapFault). StandingTells s r.frames bytes (frames_of history)) opened tells.0).1
    ∙ length-reverse (map (λ (s : Step). s.frame) history) ∙ length-map history (λ (s : Step). s.frame)
counted (Some fault) r bytes history tells opened = cc

-- what was noted of a frame that was read goes on what was read
pub noted_goes_on : (Reads : List Step → Type 0) (Stand : List Step → List Recorded → Type 0) (named : List ℕ) (history : List Step) (passed : List Recorded) (step : Step) (event : EventState)
    (result : Result NextFrame AuditFault) → IsOfEvent step history event → Reads (step ∷ history) → result ≢ Ok End → ((fault : PcapFault) → result ≢ Err (Recording fault))
    → IsNoted (Stand (step ∷ history)) named passed event result → GoesOn (λ frames datagrams. Reads frames × Stand frames datagrams) named history passed event result
noted_goes_on Reads Stand named history passed step event (Ok End) of read no_end no_stop noted = absurd (no_end refl)
noted_goes_on Reads Stand named history passed step event (Ok Nothing) of read no_end no_stop noted = (step, of, (read, noted))
noted_goes_on Reads Stand named history passed step event (Ok (Datagram a)) of read no_end no_stop noted = (step, noted.0, of, noted.1, noted.2, (read, noted.3))
noted_goes_on Reads Stand named history passed step event (Err (Recording fault)) of read no_end no_stop noted = absurd (no_stop fault refl)
noted_goes_on Reads Stand named history passed step event (Err (Judges fault)) of read no_end no_stop noted = tt
