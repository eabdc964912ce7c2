use Rattle.std.proofs.Common.{inl, refl}
use Rattle.audit_recording.specs.Losses.Noted.{unread}
use Rattle.audit_recording.proofs.session.laws.worked_stretch.Goals as goal

pub returns-clause-missed : goal.returns-clause-missed
returns-clause-missed c = (9, 310000000000, (unread 9 310000000000, inl (inl refl), refl, refl, refl), refl)
