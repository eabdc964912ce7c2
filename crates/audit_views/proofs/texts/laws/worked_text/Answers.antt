use Rattle.std.proofs.Common.{refl}
use Rattle.std.specs.Fmt.{digits}
use Rattle.audit_views.proofs.texts.laws.worked_text.Goals as goal

pub returns : goal.returns
unfolding digits
returns c = refl
