use Rattle.law_pair.proofs.ByMessages.{by_messages}
use Rattle.law_pair.proofs.laws.consistent_by_messages.Goals as goal

pub returns : goal.returns
returns c = by_messages
