use Rattle.tftp_packet.proofs.NameMarks.{marks_of_two, none_so}
use Rattle.tftp_packet.proofs.name_marks.repeated_among.Goals as goal

pub returns : goal.returns
returns c = none_so c.repeated_in.result (λ apart two. apart (marks_of_two _ _ c.in-Some.ensures.all two)) c.repeated_in.ensures
