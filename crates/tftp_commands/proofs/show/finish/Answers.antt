use Rattle.tftp_commands.proofs.Written.{cut, printed_after}
use Rattle.tftp_commands.proofs.show.finish.Goals as goal

pub returns-in-Ok : goal.returns-in-Ok
returns-in-Ok g c = rw c.in-Some.is (printed_after g.W.Write.contents c.args.writer.now c.put_fault.new.writer c.write_out-in-Ok.new.writer _ _ _ c.in-Ok.ensures.adds c.write_out-in-Ok.ensures)

pub returns-in-Err : goal.returns-in-Err
returns-in-Err g c = rw c.in-Some.is (cut g.W.Write.contents c.args.writer.now c.put_fault.new.writer _ _ c.requires.clean c.in-Err.ensures.adds)
