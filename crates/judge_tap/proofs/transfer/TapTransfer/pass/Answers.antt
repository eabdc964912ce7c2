use Rattle.std.proofs.Common.{◌≡◌, ◌∷◌, List, Result, Ok, Err, true, inl, inr, rules, sym, subst, ap, ◌∙◌}
use Rattle.std.proofs.lemmas.Result.{err_from_is_err_and}
use Rattle.tftp_packet.specs.{RequestParts, meaning}
use Rattle.law_tap.specs.{TapDatagram, TapSides, AreApart, side_of, is_passing, tap_route, transfer_between, BreaksNoTapRule, Request}
use Rattle.tftp_judge.specs.{Finds, PassError}
use Rattle.judge_tap.specs.{IsReadOf, IsReceiving, IsTapTransfer, TapTransfer, IsReadUnless, IsRecordedFor, TransferBreaks}
use Rattle.tftp_judge.specs.declared.pass_error.PassError.TheVariants.{Memory}
use Rattle.judge_tap.proofs.StateFound.{none_there}
use Rattle.judge_tap.proofs.TransferFound.{answer_read, asked_stays, found_err, memory_smaller, no_fault_in, no_other_error, reads_in, transfer_found}
use Rattle.judge_tap.proofs.transfer.TapTransfer.pass.Given.{Over}
use Rattle.judge_tap.proofs.transfer.TapTransfer.pass.Goals as goal
use Rattle.judge_tap.proofs.transfer.TapTransfer.pass.Goals.{After-first_of}

-- what is kept, by the fields
known : (g : Over) (c : After-first_of g) (s : TapSides) (passed : List TapDatagram) → IsTapTransfer c.args.self.now s passed
    → IsTapTransfer (record { asked = c.self.inside.asked; receiving = c.self.inside.receiving; notes = c.self.inside.notes; first_error = c.self.inside.first_error; highest = c.self.inside.highest }) s passed
known g c s passed is = subst (λ (t : TapTransfer). IsTapTransfer t s passed) (sym c.self.view_is) is

recorded_in : (g : Over) (c : After-first_of g) (s : TapSides) (passed : List TapDatagram) (d : TapDatagram) → IsRecordedFor c.args.rollover s c.args.self.now.asked.side passed d c.args.datagram.now
    → IsRecordedFor c.args.rollover s c.self.inside.asked.side passed d c.args.datagram.now
recorded_in g c s passed d recorded = subst (λ (q : RequestParts). IsRecordedFor c.args.rollover s q.side passed d c.args.datagram.now) (sym (ap (λ (t : TapTransfer). t.asked) c.self.view_is)) recorded

-- what is found of both
found : (g : Over) (c : After-first_of g) (s : TapSides) (earlier : List TapDatagram) (d : TapDatagram) → AreApart s → BreaksNoTapRule s earlier → IsTapTransfer c.args.self.now s (transfer_between s earlier) → d.source ≡ side_of s c.args.from
    → is_passing (tap_route s earlier d) ≡ true → IsRecordedFor c.args.rollover s c.args.self.now.asked.side (transfer_between s earlier) d c.args.datagram.now → IsReadOf d.payload c.args.read.now
    → Finds (TransferBreaks s (transfer_between s earlier) (tap_route s earlier d) d) (IsReceiving c.pass.new.self s c.self.inside.asked.side (d ∷ transfer_between s earlier)) c.first_of.result
found g c s earlier d apart lawful is source passing recorded read =
    let passed = transfer_between s earlier in
    let route = tap_route s earlier d in
    let was = known g c s passed is in
    subst (Finds (TransferBreaks s passed route d) (IsReceiving c.pass.new.self s c.self.inside.asked.side (d ∷ passed))) (sym c.first_of.ensures)
    (transfer_found s passed c.self.inside.asked was.asked route d (IsReceiving c.pass.new.self s c.self.inside.asked.side (d ∷ passed)) c.breaks-own.result c.pass.result
    (λ none. none_there s earlier d passing apart lawful c.self.inside.asked was.asked (reads_in s passed c.self.inside.asked was.asked route d none c.args.read.now read) none)
    (c.breaks-own.ensures s passed route d was.notes apart was.asked source read)
    (c.pass.ensures.finds s c.self.inside.asked.side passed d apart was.receiving source (recorded_in g c s passed d recorded)))

pub returns-in_err-first_of-clause-finds : goal.returns-in_err-first_of-clause-finds
returns-in_err-first_of-clause-finds g c = λ s earlier d apart lawful is source passing recorded read.
    let passed = transfer_between s earlier in
    let route = tap_route s earlier d in
    let at = (goal.at.returns-in_err-first_of-clause-finds g c).After-first_of in
    let was : c.first_of.result ≡ Err c.in_err-first_of.field-0.0 = search rules in
    let same : Err c.in_err-first_of.field-0.0 ≡ c.from_residual.result = search rules in
    let after : Type 0 = IsTapTransfer (record { asked = c.self.inside.asked; receiving = c.pass.new.self; notes = c.self.inside.notes; first_error = c.self.inside.first_error; highest = c.self.inside.highest }) s (d ∷ passed) in
    subst (Finds (TransferBreaks s passed route d) after) same
    (found_err (TransferBreaks s passed route d) (IsReceiving c.pass.new.self s c.self.inside.asked.side (d ∷ passed)) after c.in_err-first_of.field-0.0
    (subst (Finds (TransferBreaks s passed route d) (IsReceiving c.pass.new.self s c.self.inside.asked.side (d ∷ passed))) was (found g at s earlier d apart lawful is source passing recorded read)))

pub returns-in_err-first_of-clause-memory : goal.returns-in_err-first_of-clause-memory
returns-in_err-first_of-clause-memory g c = λ s passed d is source recorded read memory.
    let at = (goal.at.returns-in_err-first_of-clause-memory g c).After-first_of in
    let kept = known g at s passed is in
    let was : c.first_of.result ≡ Err c.in_err-first_of.field-0.0 = search rules in
    let same : Err c.in_err-first_of.field-0.0 ≡ c.from_residual.result = search rules in
    inr (
      c.self.inside.asked,
      kept.asked,
      c.pass.ensures.memory s c.self.inside.asked.side passed d kept.receiving (recorded_in g at s passed d recorded) (memory_smaller c.breaks-own.result c.pass.result (sym c.first_of.ensures ∙ was ∙ same ∙ memory)),
    )

pub returns-in_err-first_of-clause-read : goal.returns-in_err-first_of-clause-read
returns-in_err-first_of-clause-read g c = λ s passed d apart is source read.
    let at = (goal.at.returns-in_err-first_of-clause-read g c).After-first_of in
    let kept = known g at s passed is in
    let was : c.first_of.result ≡ Err c.in_err-first_of.field-0.0 = search rules in
    let same : Err c.in_err-first_of.field-0.0 ≡ c.from_residual.result = search rules in
    subst (λ (r : Result (Unit {0}) PassError). IsReadUnless r d.payload) (sym c.first_of.ensures ∙ was ∙ same)
    (answer_read s passed Request d c.breaks-own.result c.pass.result c.args.read.now read (c.breaks-own.ensures s passed Request d kept.notes apart kept.asked source read))

pub returns-in_err-note-in-Ok-clause-finds : goal.returns-in_err-note-in-Ok-clause-finds
returns-in_err-note-in-Ok-clause-finds g c = λ s earlier d apart lawful is source passing recorded read.
    let passed = transfer_between s earlier in
    let route = tap_route s earlier d in
    let at = (goal.at.returns-in_err-note-in-Ok-clause-finds g c).After-first_of in
    let was : c.first_of.result ≡ Ok c.in_ok-first_of.field-0 = search rules in
    let p = err_from_is_err_and c.from_residual-in_err-note-in-Ok.result c.from_residual-in_err-note-in-Ok.ensures.1 in
    let same : Err Memory ≡ c.from_residual-in_err-note-in-Ok.result = sym (p.1 ∙ ap Err p.2) in
    subst (Finds (TransferBreaks s passed route d) _) same (subst (Finds (TransferBreaks s passed route d) (IsReceiving c.pass.new.self s c.self.inside.asked.side (d ∷ passed))) was (found g at s earlier d apart lawful is source passing recorded read)).0

pub returns-in_err-note-in-Ok-clause-memory : goal.returns-in_err-note-in-Ok-clause-memory
returns-in_err-note-in-Ok-clause-memory g c = λ s passed d is source recorded read memory.
    let at = (goal.at.returns-in_err-note-in-Ok-clause-memory g c).After-first_of in
    let spelled = subst (IsReadOf d.payload) c.in-Ok.is read in
    inl (c.args.from, source, meaning c.in-Ok.packet, spelled, c.in_err-note-in-Ok.ensures.absent s passed (known g at s passed is).notes)

pub returns-in_err-note-in-Ok-clause-read : goal.returns-in_err-note-in-Ok-clause-read
returns-in_err-note-in-Ok-clause-read g c = λ s passed d apart is source read.
    let at = (goal.at.returns-in_err-note-in-Ok-clause-read g c).After-first_of in
    let p = err_from_is_err_and c.from_residual-in_err-note-in-Ok.result c.from_residual-in_err-note-in-Ok.ensures.1 in
    subst (λ (r : Result (Unit {0}) PassError). IsReadUnless r d.payload) (sym (p.1 ∙ ap Err p.2)) (meaning c.in-Ok.packet, subst (IsReadOf d.payload) c.in-Ok.is read)

pub returns-in_ok-note-in-Ok-clause-finds : goal.returns-in_ok-note-in-Ok-clause-finds
returns-in_ok-note-in-Ok-clause-finds g c = λ s earlier d apart lawful is source passing recorded read.
    let passed = transfer_between s earlier in
    let route = tap_route s earlier d in
    let at = (goal.at.returns-in_ok-note-in-Ok-clause-finds g c).After-first_of in
    let kept = known g at s passed is in
    let was : c.first_of.result ≡ Ok c.in_ok-first_of.field-0 = search rules in
    let told = subst (Finds (TransferBreaks s passed route d) (IsReceiving c.pass.new.self s c.self.inside.asked.side (d ∷ passed))) was (found g at s earlier d apart lawful is source passing recorded read) in
    let spelled = subst (IsReadOf d.payload) c.in-Ok.is read in (
      told.0,
      record {
        asked = asked_stays s passed c.self.inside.asked kept.asked route d;
        receiving = told.1;
        notes = c.in_ok-note-in-Ok.ensures.ok s passed d kept.notes apart source spelled (no_other_error s passed c.self.inside.asked kept.asked route d apart told.0 c.args.from source (meaning c.in-Ok.packet) spelled);
        first_error = c.keep_first_error.ensures s passed d apart kept.first_error source spelled;
        highest = c.higher-self-inside.ensures passed d kept.highest spelled;
      },
    )

pub returns-in_ok-note-in-Ok-clause-read : goal.returns-in_ok-note-in-Ok-clause-read
returns-in_ok-note-in-Ok-clause-read g c = λ s passed d apart is source read.
    let at = (goal.at.returns-in_ok-note-in-Ok-clause-read g c).After-first_of in
    (meaning c.in-Ok.packet, subst (IsReadOf d.payload) c.in-Ok.is read)

pub returns-in-Err-clause-finds : goal.returns-in-Err-clause-finds
returns-in-Err-clause-finds g c = λ s earlier d apart lawful is source passing recorded read.
    let passed = transfer_between s earlier in
    let route = tap_route s earlier d in
    let at = (goal.at.returns-in-Err-clause-finds g c).After-first_of in
    let kept = known g at s passed is in
    let was : c.first_of.result ≡ Ok c.in_ok-first_of.field-0 = search rules in
    let told = subst (Finds (TransferBreaks s passed route d) (IsReceiving c.pass.new.self s c.self.inside.asked.side (d ∷ passed))) was (found g at s earlier d apart lawful is source passing recorded read) in
    absurd (no_fault_in s passed c.self.inside.asked kept.asked route d told.0 c.in-Err.fault (subst (IsReadOf d.payload) c.in-Err.is read))
