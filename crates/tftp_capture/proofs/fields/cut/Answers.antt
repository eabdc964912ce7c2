use Rattle.std.proofs.lemmas.List.{take_rest}
use Rattle.tftp_capture.proofs.Cuts.{pieces_none, pieces_at}
use Rattle.std.proofs.Common.{arith}
use Rattle.tftp_capture.proofs.fields.cut.Goals as goal

pub returns-then-text-at-eq32 : goal.returns-then-text-at-eq32
returns-then-text-at-eq32 c = rw take_rest (pieces_at _ _ c.loop-at.invariant c.loop-at-test.true c.if-text-at-eq32.true)

pub returns : goal.returns
returns c = pieces_none _ _ c.loop-at.invariant (omega arith)
