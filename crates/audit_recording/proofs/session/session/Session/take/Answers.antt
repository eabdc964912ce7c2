use Rattle.std.proofs.Common.{◌≡◌, ◌∷◌, ◌≤◌, ◌<◌, arith, refl, ap, subst, List, ℕ}
use Rattle.net_udp.specs.Fragments.{Sets}
use Rattle.net_udp.specs.Recording.{EventState, IsFateOf}
use Rattle.net_udp.specs.{Fate}
use Rattle.net_udp.specs.declared.recording.fate.Fate.TheVariants.{Datagram}
use Rattle.audit_flows.specs.{Place}
use Rattle.audit_recording.specs.Session.Kept.{GivesNone}
use Rattle.audit_recording.specs.Session.Beside.{AreMarksKept}
use Rattle.audit_recording.specs.Session.Noted.{AreNotesOf, Noticed, frames_in, giving_up, with_time}
use Rattle.audit_recording.specs.Session.Recording.{AddsOne, IsCarriedBy, letting_go, marks_with, placing}
use Rattle.audit_recording.specs.Session.Texts.{AreTextsKept}
use Rattle.audit_recording.specs.Session.Trails.{AreTrailsKept}
use Rattle.audit_recording.proofs.SessionLemmas.Marking.{gone_is, placing_beside}
use Rattle.audit_recording.proofs.SessionLemmas.Recording.{adds_bare, bare, carried_bare, last_up_to}
use Rattle.audit_recording.proofs.SessionLemmas.Faults.{not_many, same_error}
use Rattle.audit_recording.proofs.session.session.Session.take.Goals as goal

pub returns-clause-none : goal.returns-clause-none
returns-clause-none c named history carried s step none gives of noticed are =
    let event = c.args.event.now in
    let after : Noticed = letting_go event.brought s in
    let first : AreNotesOf c.lose.new.self (giving_up event.brought.old s) = subst (λ (l : List ℕ). AreNotesOf c.lose.new.self (giving_up l s)) c.old.ensures (c.in_ok-lose.ensures.stands s are) in
    let let_go : AreNotesOf c.lose_all.new.self after =
    subst (λ (l : Sets). AreNotesOf c.lose_all.new.self (giving_up (frames_in l) (giving_up event.brought.old s))) c.take_ousted.ensures.value (c.in_ok-lose_all.ensures.stands (giving_up event.brought.old s) first) in
    let same : c.take_ousted.new.self ≡ bare event = λ i. record {
      frame = c.take_ousted.ensures.frame i;
      likeness = c.take_ousted.ensures.likeness i;
      brought = record { old = c.take_ousted.ensures.old i; ousted = c.take_ousted.ensures.gone i; outcome = c.take_ousted.ensures.outcome i };
      sent = c.take_ousted.ensures.sent i;
      is_discarded = c.take_ousted.ensures.discarded i;
    } in
    let up = last_up_to named history carried s noticed in
    let number = of.number in
    let low : s.last ≤ event.frame.number = omega arith in
    let told = subst (λ (e : EventState). GivesNone e → s.last ≤ e.frame.number
    → (fate : Fate) × (t : Noticed) × IsFateOf e.frame.parts e.likeness e.brought.outcome e.is_discarded fate × AddsOne named e fate carried after carried t
    × (AreNotesOf c.note.new.self.notes t × ((out : List ℕ) → AreMarksKept c.args.self.now.unplaced c.args.self.now.trails out s.beside → AreMarksKept c.note.new.self.unplaced c.note.new.self.trails out t.beside)))
    same (λ gives_so low_so. c.in_ok-note.ensures.none named carried after none gives_so low_so let_go) gives low in (
      told.1,
      (carried, s, event, told.0, noticed, of, told.2, adds_bare named event told.0 carried after told.1 gives told.2 told.3),
      told.4,
    )

pub returns-clause-datagram : goal.returns-clause-datagram
returns-clause-datagram c named history carried s step x a given is of came carries at noticed are =
    let event = c.args.event.now in
    let after : Noticed = letting_go event.brought s in
    let first : AreNotesOf c.lose.new.self (giving_up event.brought.old s) = subst (λ (l : List ℕ). AreNotesOf c.lose.new.self (giving_up l s)) c.old.ensures (c.in_ok-lose.ensures.stands s are) in
    let let_go : AreNotesOf c.lose_all.new.self after =
    subst (λ (l : Sets). AreNotesOf c.lose_all.new.self (giving_up (frames_in l) (giving_up event.brought.old s))) c.take_ousted.ensures.value (c.in_ok-lose_all.ensures.stands (giving_up event.brought.old s) first) in
    let same : c.take_ousted.new.self ≡ bare event = λ i. record {
      frame = c.take_ousted.ensures.frame i;
      likeness = c.take_ousted.ensures.likeness i;
      brought = record { old = c.take_ousted.ensures.old i; ousted = c.take_ousted.ensures.gone i; outcome = c.take_ousted.ensures.outcome i };
      sent = c.take_ousted.ensures.sent i;
      is_discarded = c.take_ousted.ensures.discarded i;
    } in
    let up = last_up_to named history carried s noticed in
    let number = of.number in
    let later : s.last < event.frame.number = omega arith in
    let told : AreNotesOf c.note.new.self.notes (placing a.place event x after) =
    subst (λ (e : EventState). IsFateOf e.frame.parts e.likeness e.brought.outcome e.is_discarded (Datagram given) → IsCarriedBy e given carried x → s.last < e.frame.number → AreNotesOf c.note.new.self.notes (placing a.place e x after))
    same (λ came_so carries_so later_so. c.in_ok-note.ensures.datagram named carried after x a given is came_so carries_so later_so let_go) came (carried_bare event given carried x carries) later in (
      placing a.place event x after,
      (carried, s, event, Datagram given, noticed, of, came, (x, carries, refl, ap (λ (p : Place). placing p event x after) at)),
      (told, placing_beside a.place event x after),
    )

pub returns-clause-trails : goal.returns-clause-trails
returns-clause-trails c named out history carried x a given is came carries at handed audit kept =
    let event = c.args.event.now in
    let same : c.take_ousted.new.self ≡ bare event = λ i. record {
      frame = c.take_ousted.ensures.frame i;
      likeness = c.take_ousted.ensures.likeness i;
      brought = record { old = c.take_ousted.ensures.old i; ousted = c.take_ousted.ensures.gone i; outcome = c.take_ousted.ensures.outcome i };
      sent = c.take_ousted.ensures.sent i;
      is_discarded = c.take_ousted.ensures.discarded i;
    } in
    subst (λ (e : EventState). IsFateOf e.frame.parts e.likeness e.brought.outcome e.is_discarded (Datagram given) → IsCarriedBy e given carried x
    → AreTrailsKept c.note.new.self.trails c.args.self.now.audit.judge.judging named out (x ∷ carried))
    same (λ came_so carries_so. c.in_ok-note.ensures.trails named out history carried x a given is came_so carries_so at handed audit kept) came (carried_bare event given carried x carries)

pub returns-clause-marks : goal.returns-clause-marks
returns-clause-marks c named out history carried s step x a given is of came carries at handed audit trails_kept noticed are kept =
    let event = c.args.event.now in
    let after : Noticed = letting_go event.brought s in
    let first : AreNotesOf c.lose.new.self (giving_up event.brought.old s) = subst (λ (l : List ℕ). AreNotesOf c.lose.new.self (giving_up l s)) c.old.ensures (c.in_ok-lose.ensures.stands s are) in
    let let_go : AreNotesOf c.lose_all.new.self after =
    subst (λ (l : Sets). AreNotesOf c.lose_all.new.self (giving_up (frames_in l) (giving_up event.brought.old s))) c.take_ousted.ensures.value (c.in_ok-lose_all.ensures.stands (giving_up event.brought.old s) first) in
    let same : c.take_ousted.new.self ≡ bare event = λ i. record {
      frame = c.take_ousted.ensures.frame i;
      likeness = c.take_ousted.ensures.likeness i;
      brought = record { old = c.take_ousted.ensures.old i; ousted = c.take_ousted.ensures.gone i; outcome = c.take_ousted.ensures.outcome i };
      sent = c.take_ousted.ensures.sent i;
      is_discarded = c.take_ousted.ensures.discarded i;
    } in
    let up = last_up_to named history carried s noticed in
    let number = of.number in
    let later : s.last < event.frame.number = omega arith in
    let more = marks_with a.place x (with_time x.time s.times) s.beside in
    subst (λ (e : EventState). IsFateOf e.frame.parts e.likeness e.brought.outcome e.is_discarded (Datagram given) → IsCarriedBy e given carried x → s.last < e.frame.number
    → AreMarksKept c.note.new.self.unplaced c.note.new.self.trails out more)
    same (λ came_so carries_so later_so. c.in_ok-note.ensures.marks named out (step ∷ history) carried after x a given is came_so carries_so at handed audit trails_kept later_so let_go (gone_is named history carried s noticed) kept)
    came (carried_bare event given carried x carries) later

pub returns-clause-same_trails : goal.returns-clause-same_trails
returns-clause-same_trails c judging named out carried none kept = c.in_ok-note.ensures.same_trails judging named out carried none kept

pub returns-clause-texts : goal.returns-clause-texts
returns-clause-texts c named carried x a given is came carries at kept =
    let event = c.args.event.now in
    let same : c.take_ousted.new.self ≡ bare event = λ i. record {
      frame = c.take_ousted.ensures.frame i;
      likeness = c.take_ousted.ensures.likeness i;
      brought = record { old = c.take_ousted.ensures.old i; ousted = c.take_ousted.ensures.gone i; outcome = c.take_ousted.ensures.outcome i };
      sent = c.take_ousted.ensures.sent i;
      is_discarded = c.take_ousted.ensures.discarded i;
    } in
    subst (λ (e : EventState). IsFateOf e.frame.parts e.likeness e.brought.outcome e.is_discarded (Datagram given) → IsCarriedBy e given carried x
    → AreTextsKept c.note.new.self.kept named (x ∷ carried))
    same (λ came_so carries_so. c.in_ok-note.ensures.texts named carried x a given is came_so carries_so at kept) came (carried_bare event given carried x carries)

pub returns-in_err-lose-clause-memory : goal.returns-in_err-lose-clause-memory
returns-in_err-lose-clause-memory c many = not_many c.from_residual.result c.from_residual.ensures.1 many

pub returns-in_err-lose_all-clause-memory : goal.returns-in_err-lose_all-clause-memory
returns-in_err-lose_all-clause-memory c many = not_many c.from_residual-in_err-lose_all.result c.from_residual-in_err-lose_all.ensures.1 many

pub returns-in_err-note-clause-memory : goal.returns-in_err-note-clause-memory
returns-in_err-note-clause-memory c many = c.in_err-note.ensures.memory (same_error c.from_residual-in_err-note.result _ _ c.from_residual-in_err-note.ensures.1 many)
