use Rattle.net_udp.proofs.FramesLemmas.UnreadOnce.{hidden_named, sealed_named}
use Rattle.net_udp.proofs.frames.unread_laws.what_hides_has_a_name.Goals as goal

pub returns-clause-sealed : goal.returns-clause-sealed
returns-clause-sealed c = sealed_named

pub returns-clause-hidden : goal.returns-clause-hidden
returns-clause-hidden c = hidden_named
