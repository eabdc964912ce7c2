use Rattle.std.proofs.Common.{rules, ◌≡◌, ◌∙◌, ap, length, subst, sym}
use Rattle.std.specs.Io.KnownBytes.{Appends}
use Rattle.audit_recording.specs.Blame.Frames.{whole_of}
use Rattle.audit_recording.specs.Session.Texts.{opened_count}
use Rattle.audit_recording.proofs.SessionLemmas.Ordered.{count_is}
use Rattle.tftp_rows.specs.Remarks.{remarks_text, rest_lines}
use Rattle.tftp_match.proofs.judging.tell_recording.Goals as goal

pub returns-clause-noted : goal.returns-clause-noted
returns-clause-noted g c named history carried s is =
    let many : c.len.result ≡ opened_count (whole_of named carried) = search rules ∙ (ap length (c.in_ok-transfers.ensures.in_order named history carried s is) ∙ sym (count_is (whole_of named carried))) in
    subst (λ n. Appends (g.E.Write.contents c.args.remarks.now.errors.0) (g.E.Write.contents c.tell_rest.new.self.errors.0) (remarks_text c.args.remarks.now.program.now c.args.file.now (rest_lines c.args.session.now.notes s n))) many
    (c.in_ok-tell_rest.ensures.rest s is.notes)
