use Rattle.std.proofs.Common.{sym, ◌∙◌}
use Rattle.std.proofs.lemmas.Bool.{false≢true}
use Rattle.net_pcap.proofs.Bodies.{block_answer}
use Rattle.net_pcap.proofs.pieces.said_by.Goals as goal

pub returns-then-not-is_section-clause-says : goal.returns-then-not-is_section-clause-says
returns-then-not-is_section-clause-says c = rw c.in-Blocks.is (block_answer c.in-Blocks.order c.args.interfaces.now c.args.piece.now (λ e. false≢true (sym c.if-not-is_section.true ∙ c.is_section.ensures.1 e)) c.block_of.result c.block_of.ensures.says)
