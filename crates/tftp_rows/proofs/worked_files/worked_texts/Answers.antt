use Rattle.std.proofs.Common.{refl}
use Rattle.std.specs.Fmt.{digits}
use Rattle.tftp_rows.proofs.worked_files.worked_texts.Goals as goal

pub returns-clause-line : goal.returns-clause-line
unfolding digits
returns-clause-line c text = refl
