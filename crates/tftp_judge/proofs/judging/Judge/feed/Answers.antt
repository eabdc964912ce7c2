use Rattle.std.proofs.Common.{refl}
use Rattle.tftp_capture.specs.{datagram_of}
use Rattle.tftp_judge.proofs.judging.Judge.feed.Goals as goal

pub returns-clause-refuses : goal.returns-clause-refuses
returns-clause-refuses g c = λ h earlier after. c.take.ensures.refuses h earlier (datagram_of c.args.datagram.now) after (refl, refl)
