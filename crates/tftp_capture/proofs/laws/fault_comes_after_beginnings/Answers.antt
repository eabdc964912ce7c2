use Rattle.tftp_capture.proofs.Beginnings.{fault_after, unfinished_has}
use Rattle.tftp_capture.proofs.laws.fault_comes_after_beginnings.Goals as goal

pub returns-clause-fault : goal.returns-clause-fault
returns-clause-fault c = fault_after

pub returns-clause-unfinished : goal.returns-clause-unfinished
returns-clause-unfinished c = unfinished_has
