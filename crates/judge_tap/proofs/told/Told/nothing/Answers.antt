use Rattle.tftp_packet.specs.{Message}
use Rattle.law_end.proofs.Division.Divided.{any_none}
use Rattle.law_tap.specs.{IsSaidBy}
use Rattle.judge_tap.proofs.told.Told.nothing.Goals as goal

pub returns : goal.returns
returns c = λ s follows. record { rollover = follows; figures = c.none.ensures s follows; offered = λ e options said. any_none (IsSaidBy s e (Message.Oack options)) said }
