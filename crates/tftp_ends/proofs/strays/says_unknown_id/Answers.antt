use Rattle.std.proofs.Common.{◌≡◌, rules, subst, IsOkAnd}
use Rattle.tftp_packet.specs.{Message, meaning}
use Rattle.tftp_ends.proofs.strays.says_unknown_id.Goals as goal

pub returns-in-Err : goal.returns-in-Err
returns-in-Err c = (
  search rules,
  λ says. absurd (subst (λ r. IsOkAnd r (λ p. meaning p ≡ Message.Error 5 says.0)) c.in-Err.is (c.read_packet.ensures.only (Message.Error 5 says.0) says.1)),
)
