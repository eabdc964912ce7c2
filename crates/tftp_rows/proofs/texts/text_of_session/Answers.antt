use Rattle.std.proofs.Common.{◌∙◌, refl}
use Rattle.std.specs.Io.KnownBytes.{Appends}
use Rattle.audit_recording.specs.Session.Noted.{frames_in, giving_up}
use Rattle.audit_recording.specs.Session.Texts.{text_of}
use Rattle.tftp_rows.specs.Remarks.{SaysPart}
use Rattle.tftp_rows.specs.Texts.{IsNoted}
use Rattle.tftp_rows.proofs.TextsLemmas.{fresh_again, fresh_wrote, notes_stop, read_by, text_by, text_stops, wanted_one}
use Rattle.tftp_rows.proofs.texts.text_of_session.Goals as goal

pub returns-in_err-tell_notes : goal.returns-in_err-tell_notes
returns-in_err-tell_notes g c new wanted fresh =
    let file = g.R.Read.remaining c.args.reader in
    let session = c.read_whole.new.session in
    let whole = c.in_ok-read_whole.ensures.read c.args.of.now.services.now new in
    let noted : IsNoted g.E.Write.contents c.args.remarks.now c.tell_notes.new.self c.args.of.now file SaysPart = record {
      notes = session.notes;
      read = read_by file session c.args.of.now.services.now whole;
      said = c.in_err-tell_notes.ensures.notes (giving_up (frames_in whole.recording.waiting) whole.noticed) whole.closed.kept.notes;
    } in
    text_stops g.W.Write.contents g.E.Write.contents c.args.of.now c.args.remarks.now c.tell_notes.new.self c.args.writer.now c.args.writer.now file c.args.number c.from_residual-in_err-tell_notes.result _ c.from_residual-in_err-tell_notes.ensures.1
    (notes_stop g.W.Write.contents g.E.Write.contents c.args.of.now c.args.remarks.now c.tell_notes.new.self c.args.writer.now c.args.writer.now file c.args.number _ c.in_err-tell_notes.ensures.why refl noted)

pub returns-in_err-found : goal.returns-in_err-found
returns-in_err-found g c new wanted fresh =
    let file = g.R.Read.remaining c.args.reader in
    let session = c.read_whole.new.session in
    let whole = c.in_ok-read_whole.ensures.read c.args.of.now.services.now new in
    let s = giving_up (frames_in whole.recording.waiting) whole.noticed in
    let noted : IsNoted g.E.Write.contents c.args.remarks.now c.tell_notes.new.self c.args.of.now file Appends = record {
      notes = session.notes;
      read = read_by file session c.args.of.now.services.now whole;
      said = c.in_ok-tell_notes.ensures.notes s whole.closed.kept.notes;
    } in
    text_stops g.W.Write.contents g.E.Write.contents c.args.of.now c.args.remarks.now c.tell_notes.new.self c.args.writer.now c.args.writer.now file c.args.number c.from_residual-in_err-found.result _ c.from_residual-in_err-found.ensures.1
    (refl, noted, c.in_err-found.ensures.why c.args.of.now.services.now whole.history whole.carried s whole.closed.kept (wanted_one session.kept.wanted c.args.number (c.in_ok-read_whole.ensures.wanted ∙ wanted)))

pub returns-in_err-write : goal.returns-in_err-write
returns-in_err-write g c new wanted fresh =
    let file = g.R.Read.remaining c.args.reader in
    let session = c.read_whole.new.session in
    let named = c.args.of.now.services.now in
    let whole = c.in_ok-read_whole.ensures.read named new in
    let s = giving_up (frames_in whole.recording.waiting) whole.noticed in
    let noted : IsNoted g.E.Write.contents c.args.remarks.now c.tell_notes.new.self c.args.of.now file Appends = record {
      notes = session.notes;
      read = read_by file session named whole;
      said = c.in_ok-tell_notes.ensures.notes s whole.closed.kept.notes;
    } in
    let found = c.in_ok-found.ensures.found named whole.history whole.carried s whole.closed.kept in
    text_stops g.W.Write.contents g.E.Write.contents c.args.of.now c.args.remarks.now c.tell_notes.new.self c.args.writer.now c.write.new.writer file c.args.number c.from_residual-in_err-write.result _ c.from_residual-in_err-write.ensures.1 (
      c.in_err-write.ensures.failed,
      noted,
      text_of c.args.number c.args.of.now.end c.args.of.now.file.now c.in_ok-found.found.text.now.transfer named whole.carried,
      text_by c.args.of.now session.notes whole.carried s found.0 c.args.number c.in_ok-found.found found.2 found.1 (c.in_ok-found.ensures.whole named whole.history whole.carried s whole.closed.kept),
    )

pub returns : goal.returns
returns g c new wanted fresh =
    let file = g.R.Read.remaining c.args.reader in
    let session = c.read_whole.new.session in
    let named = c.args.of.now.services.now in
    let whole = c.in_ok-read_whole.ensures.read named new in
    let s = giving_up (frames_in whole.recording.waiting) whole.noticed in
    let found = c.in_ok-found.ensures.found named whole.history whole.carried s whole.closed.kept in
    let text = text_of c.args.number c.args.of.now.end c.args.of.now.file.now c.in_ok-found.found.text.now.transfer named whole.carried in
    let wrote = c.in_ok-write.ensures.written named whole.carried found.0 c.args.number c.args.of.now.file.now found.2 in
    record {
      noted = record { notes = session.notes; read = read_by file session named whole; said = c.in_ok-tell_notes.ensures.notes s whole.closed.kept.notes };
      text = text;
      is = text_by c.args.of.now session.notes whole.carried s found.0 c.args.number c.in_ok-found.found found.2 found.1 (c.in_ok-found.ensures.whole named whole.history whole.carried s whole.closed.kept);
      written = fresh_wrote g.W.Write.contents c.args.writer.now c.write.new.writer text fresh wrote;
      fresh = fresh_again g.W.Write.contents c.args.writer.now c.write.new.writer text wrote;
    }

pub returns-in_err-read_whole : goal.returns-in_err-read_whole
returns-in_err-read_whole g c new wanted fresh =
    text_stops g.W.Write.contents g.E.Write.contents c.args.of.now c.args.remarks.now c.args.remarks.now c.args.writer.now c.args.writer.now (g.R.Read.remaining c.args.reader) c.args.number c.from_residual.result _ c.from_residual.ensures.1
    (refl, refl, c.in_err-read_whole.ensures.why c.args.of.now.services.now new)
