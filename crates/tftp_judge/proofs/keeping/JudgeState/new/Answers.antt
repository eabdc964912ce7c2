use Rattle.std.proofs.Common.{refl}
use Rattle.tftp_capture.specs.{header_of}
use Rattle.tftp_judge.proofs.keeping.JudgeState.new.Goals as goal

pub returns : goal.returns
returns g c = record { header = refl; ports = c.new.ensures (header_of c.args.header.now).rollover; kept = refl }
