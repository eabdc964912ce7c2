use Rattle.net_udp.proofs.FramesLemmas.FaultOrder.{only_of, fault_of}
use Rattle.net_udp.proofs.frames.frame.read_frame.Goals as goal

pub returns-clause-only : goal.returns-clause-only
returns-clause-only c = only_of c.args.link_number c.args.frame.now _ c.judge_frame.ensures

pub returns-clause-fault : goal.returns-clause-fault
returns-clause-fault c = fault_of c.args.link_number c.args.frame.now _ c.judge_frame.ensures
