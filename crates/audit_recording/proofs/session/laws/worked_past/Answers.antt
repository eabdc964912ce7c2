use Rattle.std.proofs.Common.{arith, refl}
use Rattle.audit_recording.specs.Losses.Noted.{unread}
use Rattle.audit_recording.proofs.session.laws.worked_past.Goals as goal

pub returns-clause-waits : goal.returns-clause-waits
returns-clause-waits c = λ past. (let late = past.waited (unread 9 20000000000, refl, refl) in omega (arith, late))
