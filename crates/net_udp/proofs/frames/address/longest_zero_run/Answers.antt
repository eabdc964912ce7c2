use Rattle.std.proofs.Common.{arith}
use Rattle.std.proofs.lemmas.Grind.{common_steps}
use Rattle.net_udp.proofs.frames.address.longest_zero_run.Goals as goal

pub loop-i-init : goal.loop-i-init
loop-i-init c = grind (arith, common_steps)

pub loop-i-preserved-then-run-len : goal.loop-i-preserved-then-run-len
loop-i-preserved-then-run-len c = grind (arith, common_steps)

pub loop-i-preserved : goal.loop-i-preserved
loop-i-preserved c = grind (arith, common_steps)
