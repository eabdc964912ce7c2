use Rattle.std.proofs.Common.{take}
use Rattle.tftp_capture.proofs.HeadLines.{goes_on}
use Rattle.tftp_capture.proofs.heads.Head.rest.Goals as goal

pub returns : goal.returns
returns c =
    let ahead = c.args.ahead.now in
    let h = c.self.inside in
    rw (← c.self.view_is) (goes_on (take h.len h.bytes) ahead h.len h.line (c.begins_with.ensures c.if-not-begins_with.false) c.if-line-len.false c.if-ahead-line.false c.if-ahead-line-ne10.false)
