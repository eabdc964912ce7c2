use Rattle.tftp_normal.proofs.Lawful.{few}
use Rattle.tftp_normal.proofs.writing.write_normal.Goals as goal

pub write_capture-requires-clause-window : goal.write_capture-requires-clause-window
write_capture-requires-clause-window g c = c.requires.can.window_size

pub write_capture-requires-clause-few : goal.write_capture-requires-clause-few
write_capture-requires-clause-few g c = few c.args.rollover c.args.transfer.now c.requires.can
