use Rattle.audit_recording.proofs.SessionLemmas.Faults.{same_fault}
use Rattle.tftp_match.proofs.source.session_of.Goals as goal

pub returns-in_err-session-clause-why : goal.returns-in_err-session-clause-why
returns-in_err-session-clause-why g c = same_fault c.from_residual.result _ _ c.from_residual.ensures.1 (c.in_err-session.ensures.why (g.R.Read.remaining c.args.reader))

pub returns-in_err-read_whole-clause-why : goal.returns-in_err-read_whole-clause-why
returns-in_err-read_whole-clause-why g c =
    same_fault c.from_residual-in_err-read_whole.result _ _ c.from_residual-in_err-read_whole.ensures.1 (c.in_err-read_whole.ensures.why c.args.services.now c.in_ok-session.ensures.stands)
