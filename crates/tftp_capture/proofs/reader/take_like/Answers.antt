use Rattle.tftp_capture.proofs.HeadLines.{begins_with_line}
use Rattle.tftp_capture.proofs.reader.take_like.Goals as goal

pub take-requires : goal.take-requires
take-requires c = record { line = begins_with_line _ _ _ _ (rw c.ahead.ensures at c.in-Some.ensures) }
