use Rattle.std.proofs.Common.{sym, ◌∙◌}
use Rattle.net_udp.proofs.FramesLemmas.Unread.{sealed_on}
use Rattle.net_udp.proofs.frames.unread.sealed_in.Goals as goal

pub returns : goal.returns
returns c =
    sealed_on c.args.link c.args.frame.now c.in-Some.kind c.least_length-size.result c.split_at.result.1.now c.sealed_behind.result c.least_length-size.ensures c.if-frame-size.false (sym c.in-Some.is ∙ c.type_in.ensures) c.split_at.ensures.back
    c.sealed_behind.ensures
