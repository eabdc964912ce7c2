-- What the next frame leaves, and what the recording's end does.
use Rattle.std.proofs.Common.{◌≡◌, ◌⊎◌, ◌∙◌, ℕ, Bool, false, List, OnOk, Option, Some, Result, Ok, Err, ap, inl, inr, sym}
use Rattle.net_pcap.specs.{PcapFault}
use Rattle.net_streams.specs.{Standing}
use Rattle.net_udp.specs.Recording.{RecordingState, Step, standing_of}
use Rattle.net_udp.proofs.RecordingLemmas.Lossless.{lost_none}
use Rattle.audit_recording.specs.Blame.Frames.{Carried}
use Rattle.audit_recording.specs.Session.Kept.{IsSessionAfter}
use Rattle.audit_recording.specs.Session.Noted.{Noticed}
use Rattle.audit_recording.specs.Session.Opened.{HasRead, lost_in, may_lose_in}
use Rattle.audit_recording.specs.declared.session.notes.Notes.{Notes}
use Rattle.audit_recording.specs.declared.session.opened.Opened.{Opened}
use Rattle.audit_recording.specs.declared.session.session.Session.{Session}

-- whether the recorder may tell later that it lost packets changes nothing of what stands
pub may_lose_too : (lose : Bool) (session : Session) (named out : List ℕ) (history : List Step) (carried : List Carried) (s : Noticed)
    → IsSessionAfter session named out history carried s → IsSessionAfter (record session { notes = record session.notes { may_lose = lose } }) named out history carried s
may_lose_too lose session named out history carried s is = record {
  noticed = is.noticed;
  kept = record {
    audit = is.kept.audit;
    notes = record { losses = is.kept.notes.losses; frames = is.kept.notes.frames; discards = is.kept.notes.discards; clock = is.kept.notes.clock; kinds = is.kept.notes.kinds; behind = is.kept.notes.behind; begun = is.kept.notes.begun; asked = is.kept.notes.asked };
    trails = is.kept.trails;
    texts = is.kept.texts;
    beside = is.kept.beside;
    unreached = is.kept.unreached;
  };
}

pub how_ended : {A B C : Type 0} → (A × B) ⊎ C → A ⊎ C
how_ended (inl p) = inl p.0
how_ended (inr q) = inr q

-- where it was read to its end, no fault was noted
pub whole_then : (recording : RecordingState) (before after : Notes) → ((standing_of recording ≡ Standing.Over) × (after ≡ before)) ⊎ ((fault : PcapFault) × (standing_of recording ≡ Standing.Failed fault) × (after.fault ≡ Some fault))
    → standing_of recording ≡ Standing.Over → after.fault ≡ before.fault
whole_then recording before after (inl so) over = ap (λ (n : Notes). n.fault) so.1
whole_then recording before after (inr so) over = let both : Standing.Failed so.0 ≡ Standing.Over = sym so.1 ∙ over in absurd (cc)

pub ok_as : {A E P Q : Type 0} (r : Result A E) → (P → Q) → OnOk r P → OnOk r Q
ok_as (Ok x) f p = f p
ok_as (Err e) f p = p

-- where it can't tell later that packets were lost, none was
pub none_lost : {R : Type 0} (remaining : R → Option (List ℕ)) (file : Option (List ℕ)) (opened : Opened R) (history : List Step) → HasRead remaining file opened history
    → may_lose_in opened ≡ false → lost_in opened.recording ≡ 0
none_lost remaining file opened history (bytes, consumed, stands, (quiet, counted)) none = lost_none opened.recording bytes history stands (quiet none)
