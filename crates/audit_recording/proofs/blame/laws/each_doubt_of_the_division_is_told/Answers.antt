use Rattle.audit_recording.proofs.ReasonsLemmas.Listed.{accused, told}
use Rattle.audit_recording.proofs.blame.laws.each_doubt_of_the_division_is_told.Goals as goal

pub returns-clause-told : goal.returns-clause-told
returns-clause-told c = told

pub returns-clause-accused : goal.returns-clause-accused
returns-clause-accused c = accused
