use Rattle.tftp_packet.proofs.NameMarks.{beside_in_order, none_so}
use Rattle.tftp_packet.proofs.name_marks.repeated_in.Goals as goal

pub returns : goal.returns
returns c =
    none_so c.repeated_beside.result (λ apart two. apart (beside_in_order c.args.marks.now c.sort_unstable.new.self c.sort_unstable.ensures.permutation c.sort_unstable.ensures.sorted two)) c.repeated_beside.ensures
