use Rattle.std.proofs.Common.{sym, ◌∙◌}
use Rattle.net_udp.proofs.FramesLemmas.Unread.{over_authentication}
use Rattle.net_udp.proofs.FramesLemmas.Uppers.{none_if}
use Rattle.net_udp.proofs.frames.unread.unread_in_ipv4.Goals as goal

pub returns : goal.returns
returns c =
    over_authentication c.args.bytes.now c.args.content.now c.unread_over.result c.if-bytes-ne-AUTHENTICATION.false
    (sym c.part.ensures ∙ none_if _ (sym c.is_some.ensures ∙ c.if-is_some.false)) c.unread_over.ensures
