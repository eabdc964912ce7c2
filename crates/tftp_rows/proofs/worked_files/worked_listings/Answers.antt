use Rattle.std.proofs.Common.{refl}
use Rattle.tftp_rows.proofs.worked_files.worked_listings.Goals as goal

pub returns-clause-unopened : goal.returns-clause-unopened
returns-clause-unopened g c begun file named program name said = (refl, refl, refl)
