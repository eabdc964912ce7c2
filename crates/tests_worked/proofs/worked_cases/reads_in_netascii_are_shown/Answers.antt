use Rattle.tests_worked.proofs.LinesShown.{lines_are_shown, bare_lines_are_shown}
use Rattle.tests_worked.proofs.worked_cases.reads_in_netascii_are_shown.Goals as goal

pub returns-clause-cut : goal.returns-clause-cut
returns-clause-cut c = lines_are_shown

pub returns-clause-bare : goal.returns-clause-bare
returns-clause-bare c = bare_lines_are_shown
