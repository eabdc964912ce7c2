use Rattle.tftp_commands.proofs.Written.{after_fresh, cut_fresh}
use Rattle.tftp_commands.proofs.check.say_verdict.Goals as goal

pub returns-in-Ok : goal.returns-in-Ok
returns-in-Ok g c =
    rw c.status_of.ensures at (after_fresh g.W.Write.contents c.args.writer.now c.put_verdict.new.writer c.write_out.new.writer _ _ _ c.requires.fresh c.in-Ok.ensures.adds c.write_out.ensures)

pub returns-in-Err : goal.returns-in-Err
returns-in-Err g c = cut_fresh g.W.Write.contents c.args.writer.now c.put_verdict.new.writer _ _ c.requires.fresh c.in-Err.ensures.adds
