use Rattle.tests_worked.specs.{at_client, read_of_lines, read_of_bare_lines}
use Rattle.tftp_normal.specs.{line_end_cut}
use Rattle.tests_worked.proofs.LinesShown.{lines_are_shown, bare_lines_are_shown}
use Rattle.tests_worked.proofs.Verdicts.{accepted, read_accepted, window_accepted}
use Rattle.tests_worked.proofs.worked_verdicts.shown_is_accepted.Goals as goal

pub returns-clause-one_block : goal.returns-clause-one_block
returns-clause-one_block c = read_accepted

pub returns-clause-window : goal.returns-clause-window
returns-clause-window c = window_accepted

pub returns-clause-lines : goal.returns-clause-lines
returns-clause-lines c = accepted at_client line_end_cut read_of_lines lines_are_shown

pub returns-clause-bare_lines : goal.returns-clause-bare_lines
returns-clause-bare_lines c = accepted at_client line_end_cut read_of_bare_lines bare_lines_are_shown
