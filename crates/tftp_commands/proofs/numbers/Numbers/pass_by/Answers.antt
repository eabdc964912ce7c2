use Rattle.std.proofs.Common.{refl}
use Rattle.tftp_capture.specs.{datagram_of}
use Rattle.tftp_commands.proofs.NumbersKept.{kept_on}
use Rattle.tftp_commands.proofs.numbers.Numbers.pass_by.Goals as goal

pub returns-clause-kept : goal.returns-clause-kept
returns-clause-kept c = λ h earlier is none.
    kept_on c.args.rollover c.args.self.now _ h earlier (datagram_of c.args.datagram.now) is none refl refl refl
    (c.answer_with-self.ensures h.named c.args.self.now.highest c.args.rollover is.unrolled is.named is.answered)
    (c.highest_with-highest.ensures.high h earlier is)
