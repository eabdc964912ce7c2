use Rattle.std.proofs.Common.{refl, ap}
use Rattle.tftp_packet.specs.{meaning}
use Rattle.tftp_judge.proofs.errors.is_error.Goals as goal

-- src/errors.rt:51:1
pub returns-in-Error : goal.returns-in-Error
returns-in-Error c = ((λ is. (c.in-Error.code, c.in-Error.message.now, ap meaning c.in-Error.is)), (λ error. refl))
