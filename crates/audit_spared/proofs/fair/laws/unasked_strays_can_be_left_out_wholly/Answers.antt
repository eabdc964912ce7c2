use Rattle.audit_spared.proofs.FairLemmas.LeftOut.{lawful_wholly, shown_wholly}
use Rattle.audit_spared.proofs.fair.laws.unasked_strays_can_be_left_out_wholly.Goals as goal

pub returns-clause-lawful : goal.returns-clause-lawful
returns-clause-lawful c = lawful_wholly

pub returns-clause-shows : goal.returns-clause-shows
returns-clause-shows c = shown_wholly
