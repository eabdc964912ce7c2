use Rattle.tests_worked.proofs.TextVerdicts.{read_accepted, overrun_refused_at, no_version_faulty}
use Rattle.tests_worked.proofs.worked_texts.texts_have_their_verdicts.Goals as goal

pub returns-clause-accepted : goal.returns-clause-accepted
returns-clause-accepted c = read_accepted

pub returns-clause-refused : goal.returns-clause-refused
returns-clause-refused c = overrun_refused_at

pub returns-clause-fault : goal.returns-clause-fault
returns-clause-fault c = no_version_faulty
