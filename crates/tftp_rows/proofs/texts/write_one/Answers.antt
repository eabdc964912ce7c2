use Rattle.std.proofs.Common.{[], refl, subst}
use Rattle.audit_recording.specs.Session.Texts.{IsTextFault, text_of}
use Rattle.tftp_rows.proofs.EachTextLemmas.{lacks_stop, line_alone, lacks_untold}
use Rattle.tftp_rows.proofs.FaultLemmas.{same_fault}
use Rattle.tftp_rows.proofs.TextsLemmas.{fresh_again, fresh_wrote, text_by, wanted_all}
use Rattle.tftp_rows.proofs.texts.write_one.Goals as goal

pub returns-in_err-write-in-Ok-clause-stopped : goal.returns-in_err-write-in-Ok-clause-stopped
returns-in_err-write-in-Ok-clause-stopped g c history carried s is wanted which some fresh =
    let named = c.args.of.now.services.now in
    same_fault c.from_residual.result _ _ c.from_residual.ensures.1 (
      (
        text_of c.args.number c.args.of.now.end c.args.of.now.file.now c.in-Ok.found.text.now.transfer named carried,
        text_by c.args.of.now c.args.session.now.notes carried s c.args.key c.args.number c.in-Ok.found (c.in-Ok.ensures.found named [] history carried s is) which (c.in-Ok.ensures.whole named [] history carried s is),
      ),
      c.in_err-write-in-Ok.ensures.failed,
      refl,
    )

pub returns-in_err-tell_lacking-in-Err-NotWhole-clause-stopped : goal.returns-in_err-tell_lacking-in-Err-NotWhole-clause-stopped
returns-in_err-tell_lacking-in-Err-NotWhole-clause-stopped g c history carried s is wanted which some fresh =
    same_fault c.from_residual-in_err-tell_lacking-in-Err-NotWhole.result _ _ c.from_residual-in_err-tell_lacking-in-Err-NotWhole.ensures.1
    (lacks_stop g.W.Write.contents g.E.Write.contents c.args.of.now c.args.session.now.notes carried s c.args.remarks.now c.tell_lacking.new.self c.args.writer.now c.args.number _ c.in_err-tell_lacking-in-Err-NotWhole.ensures.why
    (subst (IsTextFault c.args.session.now.notes.fault c.args.of.now.services.now carried s c.args.number c.args.of.now.end c.args.of.now.file.now) c.in-Err-NotWhole.field-0-is
    (c.in-Err-NotWhole.ensures.why c.args.of.now.services.now [] history carried s is which some (wanted_all c.args.session.now.kept.wanted c.args.number wanted)))
    (lacks_untold g.E.Write.contents c.args.of.now c.args.remarks.now c.tell_lacking.new.self c.args.number c.in_err-tell_lacking-in-Err-NotWhole.ensures.line))

pub returns-in_ok-write-in-Ok-clause-text : goal.returns-in_ok-write-in-Ok-clause-text
returns-in_ok-write-in-Ok-clause-text g c history carried s is fresh which ok =
    let named = c.args.of.now.services.now in
    let text = text_of c.args.number c.args.of.now.end c.args.of.now.file.now c.in-Ok.found.text.now.transfer named carried in
    let at = c.in-Ok.ensures.found named [] history carried s is in
    let wrote = c.in_ok-write-in-Ok.ensures.written named carried c.args.key c.args.number c.args.of.now.file.now at in (
      (
        text,
        text_by c.args.of.now c.args.session.now.notes carried s c.args.key c.args.number c.in-Ok.found at which (c.in-Ok.ensures.whole named [] history carried s is),
        fresh_wrote g.W.Write.contents c.args.writer.now c.write.new.writer text fresh wrote,
      ),
      fresh_again g.W.Write.contents c.args.writer.now c.write.new.writer text wrote,
    )

pub returns-in_ok-tell_lacking-in-Err-NotWhole-clause-none : goal.returns-in_ok-tell_lacking-in-Err-NotWhole-clause-none
returns-in_ok-tell_lacking-in-Err-NotWhole-clause-none g c history carried s is wanted which some off =
    subst (IsTextFault c.args.session.now.notes.fault c.args.of.now.services.now carried s c.args.number c.args.of.now.end c.args.of.now.file.now) c.in-Err-NotWhole.field-0-is
    (c.in-Err-NotWhole.ensures.why c.args.of.now.services.now [] history carried s is which some (wanted_all c.args.session.now.kept.wanted c.args.number wanted))

pub returns-in_ok-tell_lacking-in-Err-NotWhole-clause-untold : goal.returns-in_ok-tell_lacking-in-Err-NotWhole-clause-untold
returns-in_ok-tell_lacking-in-Err-NotWhole-clause-untold g c off =
    (line_alone g.E.Write.contents c.args.of.now c.args.remarks.now c.tell_lacking.new.self c.args.number c.in_ok-tell_lacking-in-Err-NotWhole.ensures.line, refl)

pub returns-in-Err-clause-stopped : goal.returns-in-Err-clause-stopped
returns-in-Err-clause-stopped g c history carried s is wanted which some fresh =
    (c.in-Err.ensures.why c.args.of.now.services.now [] history carried s is which some (wanted_all c.args.session.now.kept.wanted c.args.number wanted), refl, refl)
