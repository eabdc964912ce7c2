use Rattle.tftp_capture.proofs.HeadLines.{digits_of_none, digits_of_some}
use Rattle.tftp_capture.proofs.heads.count_digits.Goals as goal

pub returns-in-empty : goal.returns-in-empty
returns-in-empty c = λ digits. digits_of_none digits c.args.payload.now c.in-empty.len_below

pub returns-in_default : goal.returns-in_default
returns-in_default c = λ digits. digits_of_some digits c.args.payload.now c.in_default.len_at_least
