use Rattle.net_udp.proofs.RecordingLemmas.Examples.{alone_history, card_history, discarded_fate, discarded_history}
use Rattle.net_udp.proofs.recording.laws.worked_discarded.Goals as goal

pub returns-clause-discarded : goal.returns-clause-discarded
returns-clause-discarded c = discarded_history

pub returns-clause-fate : goal.returns-clause-fate
returns-clause-fate c = discarded_fate

pub returns-clause-alone : goal.returns-clause-alone
returns-clause-alone c = alone_history

pub returns-clause-left : goal.returns-clause-left
returns-clause-left c = card_history
