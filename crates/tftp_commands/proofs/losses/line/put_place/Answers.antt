use Rattle.std.proofs.Common.{rules, append_assoc}
use Rattle.tftp_commands.proofs.losses.line.put_place.Goals as goal

pub returns-then-sent-eq0 : goal.returns-then-sent-eq0
returns-then-sent-eq0 c = search (rules, append_assoc)

pub returns-then-came-eq0 : goal.returns-then-came-eq0
returns-then-came-eq0 c = search (rules, append_assoc)

pub returns : goal.returns
returns c = search (rules, append_assoc)
