use Rattle.audit_recording.proofs.SessionLemmas.Lost.{goes_once, waits_once}
use Rattle.audit_recording.proofs.session.laws.each_fragment_waits_once.Goals as goal

pub returns-clause-waits : goal.returns-clause-waits
returns-clause-waits c = waits_once

pub returns-clause-goes : goal.returns-clause-goes
returns-clause-goes c = goes_once
