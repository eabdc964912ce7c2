use Rattle.audit_recording.proofs.LossesLemmas.Others.{lost_elsewhere, waits_elsewhere}
use Rattle.audit_recording.proofs.session.laws.what_others_lose_is_not_missing.Goals as goal

pub returns-clause-lost : goal.returns-clause-lost
returns-clause-lost c = lost_elsewhere

pub returns-clause-waits : goal.returns-clause-waits
returns-clause-waits c = waits_elsewhere
