use Rattle.std.proofs.Common.{rules, append_assoc}
use Rattle.tftp_match.proofs.told.many_line.Goals as goal

pub returns : goal.returns
returns c = search (rules, append_assoc)
