use Rattle.net_pcap.proofs.Packets.{as_six, as_three, as_second}
use Rattle.net_pcap.proofs.blocks.packet_of.Goals as goal

pub returns-in-6-clause-packet : goal.returns-in-6-clause-packet
returns-in-6-clause-packet c = as_six c.args.order c.args.interfaces.now c.args.kind c.args.body.now c.enhanced_of.result c.in-6.is c.enhanced_of.ensures.enhanced

pub returns-in-3-clause-packet : goal.returns-in-3-clause-packet
returns-in-3-clause-packet c = as_three c.args.order c.args.interfaces.now c.args.kind c.args.body.now c.simple_of.result c.in-3.is c.simple_of.ensures.simple

pub returns-in-2-clause-packet : goal.returns-in-2-clause-packet
returns-in-2-clause-packet c = as_second c.args.order c.args.interfaces.now c.args.kind c.args.body.now c.obsolete_of.result c.in-2.is c.obsolete_of.ensures.obsolete
