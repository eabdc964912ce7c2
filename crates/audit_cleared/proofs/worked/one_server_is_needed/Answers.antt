use Rattle.std.proofs.Common.{refl}
use Rattle.std.specs.Fmt.{digits}
use Rattle.audit_cleared.proofs.worked.one_server_is_needed.Goals as goal

pub returns-clause-server : goal.returns-clause-server
unfolding digits
returns-clause-server c = refl

pub returns-clause-between : goal.returns-clause-between
unfolding digits
returns-clause-between c = refl
