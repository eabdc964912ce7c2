use Rattle.tftp_capture.proofs.Beginnings.{capture_begins, capture_has}
use Rattle.tftp_capture.proofs.laws.capture_has_its_beginnings.Goals as goal

pub returns-clause-first : goal.returns-clause-first
returns-clause-first c = capture_has

pub returns-clause-all : goal.returns-clause-all
returns-clause-all c = capture_begins
