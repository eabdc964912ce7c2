use Rattle.audit_spared.proofs.FairLemmas.LeftOut.{seen_without, lawful_without, shown_without}
use Rattle.audit_spared.proofs.FairLemmas.ByRules.{passes_without, meant_without}
use Rattle.audit_spared.proofs.fair.laws.strays_can_be_left_out.Goals as goal

pub returns-clause-seen : goal.returns-clause-seen
returns-clause-seen c = seen_without

pub returns-clause-lawful : goal.returns-clause-lawful
returns-clause-lawful c = lawful_without

pub returns-clause-shows : goal.returns-clause-shows
returns-clause-shows c = shown_without

pub returns-clause-rules : goal.returns-clause-rules
returns-clause-rules c = passes_without

pub returns-clause-meant : goal.returns-clause-meant
returns-clause-meant c = meant_without
