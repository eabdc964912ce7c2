use Rattle.net_udp.proofs.recording.event.Event.unread_header.Goals as goal

pub returns : goal.returns
returns c = rw (← c.self.view_is) (rw c.link.ensures at (rw c.bytes.ensures at c.unread_header.ensures))
