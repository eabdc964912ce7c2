use Rattle.std.proofs.lemmas.List.{take_rest}
use Rattle.tftp_capture.proofs.Cuts.{pieces_none, pieces_at}
use Rattle.std.proofs.Common.{◌<◌, length, arith}
use Rattle.tftp_capture.proofs.fields.cut_host.Goals as goal

pub returns-then-at-text : goal.returns-then-at-text
returns-then-at-text c = pieces_none _ _ c.count_before-at.ensures.none_before c.if-at-text.true

pub returns : goal.returns
returns c =
    let within : c.count_before-at.result < length c.args.text.now = omega arith in
    rw take_rest (pieces_at _ _ c.count_before-at.ensures.none_before within (c.count_before-at.ensures.here within))
