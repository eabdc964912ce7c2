use Rattle.law_tap.proofs.ChangedBlock.{block_stays, sent_block_stays}
use Rattle.law_tap.proofs.losses.laws.a_changed_block_is_certain.Goals as goal

pub returns-clause-noted : goal.returns-clause-noted
returns-clause-noted c = block_stays

pub returns-clause-sent : goal.returns-clause-sent
returns-clause-sent c = sent_block_stays
