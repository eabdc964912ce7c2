use Rattle.std.proofs.Common.{◌∙◌, ap, refl, subst, sym}
use Rattle.audit_recording.specs.declared.judges.judging.Judging.{Judging}
use Rattle.audit_recording.specs.declared.session.notes.Notes.{Notes}
use Rattle.tftp_rows.specs.Telling.{PrintsAllWith}
use Rattle.tftp_rows.specs.Whole.{IsRecordingTold, IsRecordingToldInPart}
use Rattle.tftp_rows.specs.declared.teller.Teller.{Teller}
use Rattle.tftp_rows.proofs.FaultLemmas.{same_fault}
use Rattle.tftp_rows.proofs.ReadingLemmas.{part_of_recording, reads_none}
use Rattle.tftp_rows.proofs.TellingLemmas.{all_none, all_so, on_err}
use Rattle.tftp_rows.proofs.reading.check_recording.Goals as goal

pub returns-in_err-session-clause-part : goal.returns-in_err-session-clause-part
returns-in_err-session-clause-part g c none =
    let file = g.R.Read.remaining c.args.reader in
    let begun : Teller g.row.W.Denot = record c.args.teller.now { file = c.args.file; told = 0; dropped = 0 } in
    let printer = c.args.teller.now.printer in
    on_err c.from_residual.result
    (part_of_recording g.W.Write.contents begun begun c.args.teller.now 0 file c.args.judging c.args.services.now (reads_none g.W.Write.contents begun file c.args.judging c.args.services.now none refl)
    (all_so g.W.Write.contents 0 printer printer c.args.teller.now.held.items (subst (λ rows. PrintsAllWith g.W.Write.contents 0 printer printer rows) (sym none) (all_none g.W.Write.contents 0 printer))) none)

pub returns-in_err-told-clause-part : goal.returns-in_err-told-clause-part
returns-in_err-told-clause-part g c none =
    let file = g.R.Read.remaining c.args.reader in
    let services = c.args.services.now in
    let now = c.tell_recording-told.new.teller in
    let held = ap {A = Teller g.row.W.Denot} (λ t. t.held.items) c.begin.ensures ∙ none in
    let told = ap {A = Teller g.row.W.Denot} (λ t. t.told) c.begin.ensures in
    on_err c.from_residual-in_err-told.result
    (subst (λ (k : Judging). IsRecordingToldInPart g.W.Write.contents (record c.args.teller.now { file = c.args.file; told = 0; dropped = 0 }) now file k services) c.in_ok-session.ensures.judging
    (subst (λ (b : Teller g.row.W.Denot). IsRecordingToldInPart g.W.Write.contents b now file c.in_ok-session.session.audit.judge.judging services) c.begin.ensures
    (c.in_err-told.ensures.part services c.in_ok-session.ensures.stands held told)))

pub returns-clause-told : goal.returns-clause-told
returns-clause-told g c none =
    let file = g.R.Read.remaining c.args.reader in
    let services = c.args.services.now in
    let now = c.tell_recording-told.new.teller in
    let begun : Teller g.row.W.Denot = record c.args.teller.now { file = c.args.file; told = 0; dropped = 0 } in
    let held = ap {A = Teller g.row.W.Denot} (λ t. t.held.items) c.begin.ensures ∙ none in
    let told = ap {A = Teller g.row.W.Denot} (λ t. t.told) c.begin.ensures in
    subst (λ (n : Notes). IsRecordingTold g.W.Write.contents begun now file c.args.judging services n) (sym c.into_notes-notes.ensures)
    (subst (λ (k : Judging). IsRecordingTold g.W.Write.contents begun now file k services c.tell_recording-told.new.session.notes) c.in_ok-session.ensures.judging
    (subst (λ (b : Teller g.row.W.Denot). IsRecordingTold g.W.Write.contents b now file c.in_ok-session.session.audit.judge.judging services c.tell_recording-told.new.session.notes) c.begin.ensures
    (c.in_ok-told.ensures.told services c.in_ok-session.ensures.stands held told)))

pub returns-in_err-session-clause-why : goal.returns-in_err-session-clause-why
returns-in_err-session-clause-why g c none = same_fault c.from_residual.result _ _ c.from_residual.ensures.1 (c.in_err-session.ensures.why (g.R.Read.remaining c.args.reader))

pub returns-in_err-told-clause-why : goal.returns-in_err-told-clause-why
returns-in_err-told-clause-why g c none =
    let held = ap {A = Teller g.row.W.Denot} (λ t. t.held.items) c.begin.ensures ∙ none in
    let told = ap {A = Teller g.row.W.Denot} (λ t. t.told) c.begin.ensures in
    same_fault c.from_residual-in_err-told.result _ _ c.from_residual-in_err-told.ensures.1 (c.in_err-told.ensures.why c.args.services.now c.in_ok-session.ensures.stands held told)
