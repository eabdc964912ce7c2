use Rattle.tests_worked.proofs.LinesPrinted.{lines_accepted, lines_checked, lines_extracted, lines_normalised}
use Rattle.tests_worked.proofs.worked_texts.lines_are_read_as_their_file.Goals as goal

pub returns-clause-verdict : goal.returns-clause-verdict
returns-clause-verdict c = lines_accepted

pub returns-clause-checked : goal.returns-clause-checked
returns-clause-checked c = lines_checked

pub returns-clause-extracted : goal.returns-clause-extracted
returns-clause-extracted c = lines_extracted

pub returns-clause-normalised : goal.returns-clause-normalised
returns-clause-normalised c = lines_normalised
