use Rattle.std.proofs.Common.{rules, append_assoc}
use Rattle.tftp_match.proofs.lines.matched_line.Goals as goal

pub returns-in-Some : goal.returns-in-Some
returns-in-Some c = rw c.in-Some.is (search (rules, append_assoc))
