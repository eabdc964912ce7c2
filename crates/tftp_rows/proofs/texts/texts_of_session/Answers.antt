use Rattle.std.proofs.Common.{rules, ◌≡◌, refl, subst, ◌∙◌}
use Rattle.std.specs.Io.KnownBytes.{Appends}
use Rattle.audit_recording.specs.Blame.Frames.{whole_of}
use Rattle.audit_recording.specs.Session.Noted.{frames_in, giving_up}
use Rattle.audit_recording.specs.Session.Texts.{opened_count}
use Rattle.tftp_rows.specs.Remarks.{SaysPart, remarks_text, rest_lines}
use Rattle.tftp_rows.proofs.EachTextLemmas.{all_numbered, each_after, none_told, rest_stops, texts_by, texts_stop}
use Rattle.tftp_rows.proofs.RemarksLemmas.{says_nothing}
use Rattle.tftp_rows.proofs.TextsLemmas.{read_by}
use Rattle.tftp_rows.proofs.texts.texts_of_session.Goals as goal

pub returns-in_err-keys : goal.returns-in_err-keys
returns-in_err-keys g c new wanted fresh =
    let file = g.R.Read.remaining c.args.reader in
    let session = c.read_whole.new.session in
    let named = c.args.of.now.services.now in
    let whole = c.in_ok-read_whole.ensures.read named new in
    texts_stop g.W.Write.contents g.E.Write.contents c.args.of.now c.args.remarks.now c.args.remarks.now c.args.writer.now c.args.writer.now file c.from_residual-in_err-keys.result _ c.from_residual-in_err-keys.ensures.1
    (none_told g.W.Write.contents g.E.Write.contents c.args.of.now c.args.remarks.now c.args.remarks.now c.args.writer.now c.args.writer.now file session.notes (read_by file session named whole) _ refl
    (says_nothing (g.E.Write.contents c.args.remarks.now.errors.0) _))

pub returns-in_err-tell_rest : goal.returns-in_err-tell_rest
returns-in_err-tell_rest g c new wanted fresh =
    let file = g.R.Read.remaining c.args.reader in
    let session = c.read_whole.new.session in
    let named = c.args.of.now.services.now in
    let whole = c.in_ok-read_whole.ensures.read named new in
    let s = giving_up (frames_in whole.recording.waiting) whole.noticed in
    let many : c.len.result ≡ opened_count (whole_of named whole.carried) = search rules ∙ all_numbered named whole.carried c.in_ok-keys.keys.items (c.in_ok-keys.ensures.in_order named whole.history whole.carried s whole.closed.kept) in
    texts_stop g.W.Write.contents g.E.Write.contents c.args.of.now c.args.remarks.now c.tell_rest.new.self c.args.writer.now c.args.writer.now file c.from_residual-in_err-tell_rest.result _ c.from_residual-in_err-tell_rest.ensures.1
    (rest_stops g.W.Write.contents g.E.Write.contents c.args.of.now c.args.remarks.now c.tell_rest.new.self c.args.writer.now c.args.writer.now file session.notes (read_by file session named whole) _ c.in_err-tell_rest.ensures.why refl
    (subst (λ n. SaysPart (g.E.Write.contents c.args.remarks.now.errors.0) (g.E.Write.contents c.tell_rest.new.self.errors.0) (remarks_text c.args.remarks.now.program.now c.args.of.now.file.now (rest_lines session.notes s n))) many
    (c.in_err-tell_rest.ensures.rest s whole.closed.kept.notes)))

pub returns : goal.returns
returns g c new wanted fresh =
    let file = g.R.Read.remaining c.args.reader in
    let session = c.read_whole.new.session in
    let named = c.args.of.now.services.now in
    let whole = c.in_ok-read_whole.ensures.read named new in
    let s = giving_up (frames_in whole.recording.waiting) whole.noticed in
    let in_order = c.in_ok-keys.ensures.in_order named whole.history whole.carried s whole.closed.kept in
    let many : c.len.result ≡ opened_count (whole_of named whole.carried) = search rules ∙ all_numbered named whole.carried c.in_ok-keys.keys.items in_order in
    let rest = rest_lines session.notes s (opened_count (whole_of named whole.carried)) in
    let noted = subst (λ n. Appends (g.E.Write.contents c.args.remarks.now.errors.0) (g.E.Write.contents c.tell_rest.new.self.errors.0) (remarks_text c.args.remarks.now.program.now c.args.of.now.file.now (rest_lines session.notes s n))) many
    (c.in_ok-tell_rest.ensures.rest s whole.closed.kept.notes) in
    texts_by g.W.Write.contents g.E.Write.contents c.args.of.now c.args.remarks.now c.write_each.new.remarks c.args.writer.now c.write_each.new.writer file session.notes (read_by file session named whole) c.write_each.result
    (each_after g.W.Write.contents g.E.Write.contents c.args.of.now c.args.remarks.now c.tell_rest.new.self c.write_each.new.remarks c.in_ok-tell_rest.ensures.same c.args.writer.now c.write_each.new.writer session.notes whole.carried s rest noted c.write_each.result
    (c.write_each.ensures whole.history whole.carried s whole.closed.kept (c.in_ok-read_whole.ensures.wanted ∙ wanted) (c.as_slice.ensures.value ∙ c.in_ok-keys.ensures.keys) (c.as_slice.ensures.value ∙ in_order) fresh))

pub returns-in_err-read_whole : goal.returns-in_err-read_whole
returns-in_err-read_whole g c new wanted fresh =
    texts_stop g.W.Write.contents g.E.Write.contents c.args.of.now c.args.remarks.now c.args.remarks.now c.args.writer.now c.args.writer.now (g.R.Read.remaining c.args.reader) c.from_residual.result _ c.from_residual.ensures.1
    (refl, refl, c.in_err-read_whole.ensures.why c.args.of.now.services.now new)
