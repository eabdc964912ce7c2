use Rattle.tftp_packet.proofs.NameMarks.{two_named}
use Rattle.tftp_packet.proofs.name_marks.has_repeat_of_mark.Goals as goal

pub returns-then-mark-wanted : goal.returns-then-mark-wanted
returns-then-mark-wanted c = λ is.
    c.loop-name.invariant (two_named c.args.long c.in-Some.name.now c.in-Some.after.now _ c.in-Some.ensures.0 c.in-Some.ensures.2 (c.has_name.ensures.0 is))
