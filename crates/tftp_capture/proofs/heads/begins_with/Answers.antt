use Rattle.std.proofs.Common.{arith}
use Rattle.std.proofs.lemmas.Bool.{leb-true}
use Rattle.tftp_capture.proofs.Alike.{alike}
use Rattle.tftp_capture.proofs.heads.begins_with.Goals as goal

pub returns : goal.returns
returns c = λ good.
    alike c.args.len c.args.ahead.now c.args.head.now c.if-ahead-lt-LANES.false (omega (arith, c.told-head)) c.if-len-gt-LANES.false (leb-true _ _ good)
