use Rattle.std.proofs.Common.{rules, append_assoc}
use Rattle.tftp_rows.proofs.times.put_silence.Goals as goal

pub returns : goal.returns
returns c = search (rules, append_assoc)
