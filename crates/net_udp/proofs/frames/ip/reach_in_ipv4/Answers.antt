use Rattle.std.proofs.Common.{sym, ◌∙◌}
use Rattle.net_udp.proofs.FramesLemmas.Uppers.{none_if, over_wrapped}
use Rattle.net_udp.proofs.frames.ip.reach_in_ipv4.Goals as goal

pub returns : goal.returns
returns c =
    over_wrapped c.args.bytes.now c.args.content.now c.skip_extensions.result (sym c.is_wrapping.ensures ∙ c.if-not-is_wrapping.false)
    (sym c.part-fragment.ensures ∙ none_if _ (sym c.is_some.ensures ∙ c.if-is_some.false)) c.skip_extensions.ensures
