use Rattle.std.proofs.Common.{refl}
use Rattle.std.specs.Fmt.{digits}
use Rattle.tftp_match.proofs.laws.worked_lines.Goals as goal

pub returns-clause-matched : goal.returns-clause-matched
unfolding digits
returns-clause-matched c = refl
