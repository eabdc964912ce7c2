use Rattle.net_udp.proofs.FramesLemmas.Datagrams.{only_of, fault_of}
use Rattle.net_udp.proofs.frames.udp.read_udp.Goals as goal

pub returns-clause-only : goal.returns-clause-only
returns-clause-only c = only_of c.args.protocol c.args.content.now _ c.judge_udp.ensures.judges

pub returns-clause-fault : goal.returns-clause-fault
returns-clause-fault c = fault_of c.args.protocol c.args.content.now _ c.judge_udp.ensures.judges
