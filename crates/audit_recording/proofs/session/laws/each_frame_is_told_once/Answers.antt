use Rattle.audit_recording.proofs.SessionLemmas.Alone.{told_alone}
use Rattle.audit_recording.proofs.SessionLemmas.Lost.{lost_alone, lost_once, lost_within}
use Rattle.audit_recording.proofs.SessionLemmas.Once.{told_once}
use Rattle.audit_recording.proofs.session.laws.each_frame_is_told_once.Goals as goal

pub returns-clause-once : goal.returns-clause-once
returns-clause-once c = told_once

pub returns-clause-alone : goal.returns-clause-alone
returns-clause-alone c = told_alone

pub returns-clause-lost_once : goal.returns-clause-lost_once
returns-clause-lost_once c = lost_once

pub returns-clause-lost_alone : goal.returns-clause-lost_alone
returns-clause-lost_alone c = lost_alone

pub returns-clause-lost_within : goal.returns-clause-lost_within
returns-clause-lost_within c = lost_within
