use Rattle.std.proofs.Common.{refl}
use Rattle.std.specs.Fmt.{digits}
use Rattle.audit_cleared.proofs.worked.addresses_are_needed.Goals as goal

pub returns-clause-client : goal.returns-clause-client
unfolding digits
returns-clause-client c = refl

pub returns-clause-between : goal.returns-clause-between
unfolding digits
returns-clause-between c = refl
