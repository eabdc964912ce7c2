use Rattle.tftp_judge.proofs.Flags.{no_flag}
use Rattle.tftp_judge.proofs.sent_acks.SentAcks.none.Goals as goal

pub returns : goal.returns
returns c = λ j. no_flag 1024 j
