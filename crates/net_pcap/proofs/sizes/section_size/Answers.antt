use Rattle.net_pcap.proofs.Announced.{section_unopened, section_blocks}
use Rattle.net_pcap.proofs.sizes.section_size.Goals as goal

pub returns-clause-unopened : goal.returns-clause-unopened
returns-clause-unopened c = section_unopened c.args.front.now c.in-Some.order c.requires.enough c.requires.section c.in-Some.ensures c.block_size.result c.block_size.ensures

pub returns-clause-blocks : goal.returns-clause-blocks
returns-clause-blocks c = λ order. section_blocks c.args.front.now c.in-Some.order c.requires.enough c.requires.section c.in-Some.ensures order c.block_size.result c.block_size.ensures
