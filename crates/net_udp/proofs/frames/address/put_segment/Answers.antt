use Rattle.std.proofs.Common.{arith, rules}
use Rattle.std.proofs.lemmas.Grind.{common_steps}
use Rattle.std.specs.Net.Text.{hex}
use Rattle.net_udp.proofs.frames.address.put_segment.Goals as goal

pub returns-clause-text : goal.returns-clause-text
unfolding hex
returns-clause-text c = first_of (search rules, grind (arith, common_steps))
