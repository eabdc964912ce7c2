use Rattle.tftp_commands.proofs.Written.{printed_fault}
use Rattle.tftp_commands.proofs.output.say.Goals as goal

pub returns-in-Ok : goal.returns-in-Ok
returns-in-Ok g c = printed_fault g.W.Write.contents c.args.writer.now c.write.new.self c.write.result c.args.line.now c.requires.fresh c.write.ensures.writes

pub returns-in-Ok-2 : goal.returns-in-Ok-2
returns-in-Ok-2 g c = printed_fault g.W.Write.contents c.args.writer.now c.write.new.self c.write.result c.args.line.now c.requires.fresh c.write.ensures.writes
