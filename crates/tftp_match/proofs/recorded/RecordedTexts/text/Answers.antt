use Rattle.std.proofs.Common.{refl, subst, sym}
use Rattle.audit_recording.specs.Session.Texts.{text_of}
use Rattle.tftp_rows.specs.Texts.{IsText}
use Rattle.tftp_match.proofs.RecordedLemmas.{written_items}
use Rattle.tftp_match.proofs.recorded.RecordedTexts.text.Goals as goal

pub returns-in-Ok-clause-text : goal.returns-in-Ok-clause-text
returns-in-Ok-clause-text c named history carried s is =
    let file = c.args.self.now.file.now in
    let found = c.in_ok-found.ensures.found named history carried s is in
    let text = text_of c.args.number c.args.self.now.end file c.in_ok-found.found.text.now.transfer named carried in
    let wrote = c.in-Ok.ensures.written named carried found.0 c.args.number file found.2 in
    let same = written_items (λ v. v.items) c.new.result c.new-written.result c.write.new.writer c.finish.result.0 c.finish.result.1 text c.new-written.ensures c.new.ensures.items wrote c.finish.ensures.ends in
    subst (IsText c.args.self.now.end file named c.args.self.now.session.now.notes carried s c.args.number) (sym same) (record {
      key = found.0;
      transfer = c.in_ok-found.found.text.now.transfer;
      opened = found.2.opened;
      which = found.1;
      whole = c.in_ok-found.ensures.whole named history carried s is;
      is = refl;
    })
