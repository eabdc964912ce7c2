use Rattle.net_pcap.proofs.Bodies.{no_interface}
use Rattle.net_pcap.proofs.pieces.named_by.Goals as goal

pub returns-in-None : goal.returns-in-None
returns-in-None c = no_interface c.args.order c.args.interfaces.now c.args.body.now c.in-None.ensures
