use Rattle.std.proofs.Common.{refl, subst, sym}
use Rattle.audit_recording.specs.declared.session.notes.Notes.{Notes}
use Rattle.tftp_rows.specs.ListedWhole.{IsRecordingListed}
use Rattle.tftp_rows.proofs.FaultLemmas.{same_fault}
use Rattle.tftp_rows.proofs.ListedLemmas.{lists_none}
use Rattle.tftp_rows.proofs.TellingLemmas.{on_err}
use Rattle.tftp_rows.proofs.list_reading.list_recording.Goals as goal

pub returns-in_err-session-clause-part : goal.returns-in_err-session-clause-part
returns-in_err-session-clause-part g c = on_err c.from_residual.result (lists_none g.W.Write.contents (record c.args.lister.now { told = 0 }) c.args.lister.now (g.R.Read.remaining c.args.reader) c.args.services.now refl)

pub returns-in_err-listed-clause-part : goal.returns-in_err-listed-clause-part
returns-in_err-listed-clause-part g c = on_err c.from_residual-in_err-listed.result (c.in_err-listed.ensures.part c.args.services.now c.in_ok-session.ensures.stands refl)

pub returns-clause-listed : goal.returns-clause-listed
returns-clause-listed g c =
    subst (λ (n : Notes). IsRecordingListed g.W.Write.contents (record c.args.lister.now { told = 0 }) c.list_to_end-listed.new.lister (g.R.Read.remaining c.args.reader) c.args.services.now n) (sym c.into_notes-notes.ensures)
    (c.in_ok-listed.ensures.listed c.args.services.now c.in_ok-session.ensures.stands refl)

pub returns-in_err-session-clause-why : goal.returns-in_err-session-clause-why
returns-in_err-session-clause-why g c = same_fault c.from_residual.result _ _ c.from_residual.ensures.1 (c.in_err-session.ensures.why (g.R.Read.remaining c.args.reader))

pub returns-in_err-listed-clause-why : goal.returns-in_err-listed-clause-why
returns-in_err-listed-clause-why g c = same_fault c.from_residual-in_err-listed.result _ _ c.from_residual-in_err-listed.ensures.1 (c.in_err-listed.ensures.why c.args.services.now c.in_ok-session.ensures.stands refl)
