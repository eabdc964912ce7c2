use Rattle.std.proofs.Common.{◌==◌, ◌&&◌, ap, max, if◌then◌else◌, true, false}
use Rattle.tftp_rows.proofs.worked_files.worked_statuses.Goals as goal

pub returns-clause-refused : goal.returns-clause-refused
returns-clause-refused c t rest is = ap (λ w. if (max (max w 0) (max 0 0) == 0) && true then 3 else max (max w 0) (max 0 0)) is

pub returns-clause-accepted : goal.returns-clause-accepted
returns-clause-accepted c t rest is = ap (λ w. if (max (max w 0) 0 == 0) && false then 3 else max (max w 0) 0) is
