use Rattle.std.proofs.Common.{arith, rules}
use Rattle.std.proofs.lemmas.Grind.{common_steps}
use Rattle.std.specs.Net.Text.{hex_groups_text}
use Rattle.net_udp.proofs.frames.address.put_hex.Goals as goal

pub returns-then-len-gt1-clause-text : goal.returns-then-len-gt1-clause-text
unfolding hex_groups_text
returns-then-len-gt1-clause-text c = first_of (search rules, grind (arith, common_steps))

pub returns-else-len-gt1-clause-text : goal.returns-else-len-gt1-clause-text
unfolding hex_groups_text
returns-else-len-gt1-clause-text c = first_of (search rules, grind (arith, common_steps))
