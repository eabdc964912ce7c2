use Rattle.std.proofs.Common.{arith, refl}
use Rattle.net_udp.proofs.RecordingLemmas.Overlapping.{across_history}
use Rattle.audit_recording.proofs.SessionLemmas.WorkedLost.{begun_is, torn_is}
use Rattle.audit_recording.proofs.session.laws.worked_lost.Goals as goal

pub returns-clause-waits : goal.returns-clause-waits
returns-clause-waits c = begun_is

pub returns-clause-history : goal.returns-clause-history
returns-clause-history c = across_history

pub returns-clause-torn : goal.returns-clause-torn
returns-clause-torn c = torn_is

pub returns-clause-once : goal.returns-clause-once
returns-clause-once c = (((λ e. omega (arith, e)), tt), (tt, tt))

pub returns-clause-twice : goal.returns-clause-twice
returns-clause-twice c = λ are. are.0.1.0 refl

pub returns-clause-copy : goal.returns-clause-copy
returns-clause-copy c = λ alone. alone.copies.0.0 refl
