use Rattle.std.proofs.Common.{refl, rules, codes}
use Rattle.tftp_packet.proofs.laws.worked_written.Goals as goal

pub returns-clause-request : goal.returns-clause-request
returns-clause-request c = (codes "OctEt", refl, search rules, refl)
