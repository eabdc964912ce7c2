use Rattle.net_udp.proofs.frames.link.read_typed.Goals as goal

pub returns-in_default : goal.returns-in_default
returns-in_default c carried (last, leads, network) = c.in_default.ensures last carried.content leads
