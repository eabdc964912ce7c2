use Rattle.std.proofs.Common.{sym, ◌∙◌}
use Rattle.net_udp.proofs.FramesLemmas.Unread.{has_inside}
use Rattle.net_udp.proofs.frames.unread.unread_header.Goals as goal

pub returns-in-None : goal.returns-in-None
returns-in-None c = has_inside c.args.link_number c.args.frame.now c.in-Some.link c.unread_inside.result (sym c.link_type.ensures ∙ c.in-Some.is) c.in-None.ensures c.unread_inside.ensures
