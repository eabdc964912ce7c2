-- A recording that is read to its end, frame by frame.
use Rattle.std.proofs.Common.{arith, ◌≡◌, ◌≤◌, ◌+◌, ◌-◌, ◌^◌, ◌∷◌, [], ℕ, Bool, true, false, List, length, Option, Ok, inl, inr, sym, ◌∙◌}
use Rattle.std.proofs.lemmas.Bool.{false≢true}
use Rattle.std.specs.Io.KnownBytes.{Consumes, IsAtEnd}
use Rattle.net_streams.specs.{Standing}
use Rattle.net_udp.specs.Recording.{RecordingState, StandsFor, Step, standing_of}
use Rattle.audit_recording.specs.Blame.Frames.{Carried}
use Rattle.audit_recording.specs.Session.Kept.{IsSessionAfter, ReadsOn}
use Rattle.audit_recording.specs.Session.Noted.{Noticed, nothing_noticed}
use Rattle.audit_recording.specs.Session.Opened.{HasEnded, HasMany, IsReadOn, IsReadWhole, IsSessionClosed}
use Rattle.audit_recording.specs.declared.session.fault.ReadFault.{ReadFault}
use Rattle.audit_recording.specs.declared.session.notes.Notes.{Notes}
use Rattle.audit_recording.specs.declared.session.session.Session.{Session}
use Rattle.audit_recording.proofs.AuditLemmas.Counted.{at_least}

-- nothing was read
pub begins_reading : (Read : List Step → Type 0) (session : Session) (named : List ℕ) → Read [] → IsSessionAfter session named [] [] [] nothing_noticed → IsReadOn Read session named
begins_reading Read session named read is = record { history = []; carried = []; noticed = nothing_noticed; read = read; is = is }

module _ (Before After : List Step → Type 0) (old new : Session) (named : List ℕ) (so : IsReadOn Before old named) where
  abbrev pub Stand : List Step → List Carried → Noticed → Type 0
  Stand frames datagrams noticed = After frames × IsSessionAfter new named [] frames datagrams noticed

  -- no frame more
  pub none_on : (goes : Bool) → goes ≡ false → ReadsOn {F = ReadFault} Stand so.history so.carried so.noticed (Ok goes) → IsReadOn After new named
  none_on false e came = record { history = so.history; carried = so.carried; noticed = so.noticed; read = came.0; is = came.1 }
  none_on true e came = absurd (false≢true (sym e))

-- so many frames at least
abbrev pub IsReadOnFor : ℕ → (List Step → Type 0) → Session → List ℕ → Type 0
IsReadOnFor n Read session named = (so : IsReadOn Read session named) × (n ≤ length so.history)

module _ (Before After : List Step → Type 0) (old new : Session) (named : List ℕ) (n : ℕ) where
  longer : (step : Step) (history : List Step) → n ≤ length history → n + 1 ≤ length (step ∷ history)
  longer step history le = grind arith

  pub frame_on_for : (so : IsReadOnFor n Before old named) (goes : Bool) → goes ≡ true
      → ReadsOn {F = ReadFault} (λ frames datagrams noticed. After frames × IsSessionAfter new named [] frames datagrams noticed) so.0.history so.0.carried so.0.noticed (Ok goes) → IsReadOnFor (n + 1) After new named
  frame_on_for so true e came = (record { history = came.0 ∷ so.0.history; carried = came.1; noticed = came.2; read = came.4.0; is = came.4.1 }, longer came.0 so.0.history so.1)
  frame_on_for so false e came = absurd (false≢true e)

-- the file has as many frames as were read
pub many_read : {Q : List ℕ → List Step → Type 0} (file left : Option (List ℕ)) (recording : RecordingState) (session : Session) (named : List ℕ) (n : ℕ)
    → IsReadOnFor n (λ history. (bytes : List ℕ) × Consumes file left bytes × StandsFor recording bytes history × Q bytes history) session named → 2 ^ 64 - 1 ≤ n → HasMany file
many_read file left recording session named n so all =
    (so.0.history, (recording, so.0.read.0, left, so.0.read.1, so.0.read.2), at_least (2 ^ 40) n (length so.0.history) (omega (arith, all)) so.1)

ended_too : (recording : RecordingState) (before after : Notes) → after.fault ≡ before.fault → HasEnded recording before → HasEnded recording after
ended_too recording before after same (inl over) = inl over
ended_too recording before after same (inr failed) = inr (failed.0, failed.1, same ∙ failed.2)

-- and it is closed
pub closed_reading : {Q : List ℕ → List Step → Type 0} (file left : Option (List ℕ)) (recording : RecordingState) (old new : Session) (named : List ℕ)
    → IsReadOn (λ history. (bytes : List ℕ) × Consumes file left bytes × StandsFor recording bytes history × Q bytes history) old named
    → (standing_of recording ≡ Standing.Over → IsAtEnd left) → HasEnded recording old.notes → new.notes.fault ≡ old.notes.fault
    → ((history : List Step) (carried : List Carried) (s : Noticed) → IsSessionAfter old named [] history carried s → IsSessionClosed new recording named [] history carried s)
    → IsReadWhole file new named
closed_reading file left recording old new named on at_end ended same closed = record {
  recording = recording;
  bytes = on.read.0;
  left = left;
  history = on.history;
  carried = on.carried;
  noticed = on.noticed;
  had = on.read.1;
  frames = on.read.2;
  at_end = at_end;
  ended = ended_too recording old.notes new.notes same ended;
  closed = closed on.history on.carried on.noticed on.is;
}
