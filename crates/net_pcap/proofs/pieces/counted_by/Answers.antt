use Rattle.net_pcap.proofs.Bodies.{no_statistics}
use Rattle.net_pcap.proofs.pieces.counted_by.Goals as goal

pub returns-in-None : goal.returns-in-None
returns-in-None c = no_statistics c.args.order c.args.interfaces.now c.args.body.now c.in-None.ensures
