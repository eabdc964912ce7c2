use Rattle.law_pair.proofs.OneTransfer.{one_transfer}
use Rattle.law_pair.proofs.laws.consistent_means_one_transfer.Goals as goal

pub returns : goal.returns
returns c = one_transfer
