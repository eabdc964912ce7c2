use Rattle.audit_flows.proofs.TransfersLemmas.Asking.{asked_once}
use Rattle.audit_flows.proofs.transfers.laws.who_asked_once_has_one_transfer.Goals as goal

pub returns : goal.returns
returns c = asked_once
