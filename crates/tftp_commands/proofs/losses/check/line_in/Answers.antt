use Rattle.std.proofs.Common.{string_bytes}
use Rattle.tftp_commands.proofs.Told.{found_right, line_found, line_none}
use Rattle.tftp_commands.proofs.losses.check.line_in.Goals as goal

pub returns-in-Ok : goal.returns-in-Ok
returns-in-Ok c =
    line_found string_bytes c.line_of.result c.args.text.now c.in-Ok.places.items (found_right c.args.text.now c.in-Ok.places.items c.in-Ok.ensures)
    (rw c.as_slice.ensures.value at c.line_of.ensures)

pub returns-in-Err : goal.returns-in-Err
returns-in-Err c = line_none string_bytes c.line_without.result c.args.text.now c.line_without.ensures
