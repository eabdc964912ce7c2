use Rattle.audit_recording.proofs.SessionLemmas.HiddenLost.{hidden_lost}
use Rattle.audit_recording.proofs.SessionLemmas.HiddenOnce.{hidden_once}
use Rattle.audit_recording.proofs.session.laws.each_frame_is_behind_one_header.Goals as goal

pub returns-clause-once : goal.returns-clause-once
returns-clause-once c = hidden_once

pub returns-clause-lost : goal.returns-clause-lost
returns-clause-lost c = hidden_lost
