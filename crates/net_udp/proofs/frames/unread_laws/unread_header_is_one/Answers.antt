use Rattle.net_udp.proofs.FramesLemmas.UnreadOnce.{header_once, read_has_none}
use Rattle.net_udp.proofs.frames.unread_laws.unread_header_is_one.Goals as goal

pub returns-clause-one : goal.returns-clause-one
returns-clause-one c = header_once

pub returns-clause-none : goal.returns-clause-none
returns-clause-none c = read_has_none
