use Rattle.tftp_commands.proofs.Written.{cut_waits, printed_waits}
use Rattle.tftp_commands.proofs.output.write_out.Goals as goal

pub returns-in-Ok : goal.returns-in-Ok
returns-in-Ok g c = printed_waits g.W.Write.contents c.args.writer.now c.flush.new.self c.args.status c.in-Ok.ensures.writes

pub returns-in-Err : goal.returns-in-Err
returns-in-Err g c = cut_waits g.W.Write.contents c.args.writer.now c.flush.new.self c.args.status c.requires.clean c.in-Err.ensures.writes
