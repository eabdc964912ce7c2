use Rattle.std.proofs.Common.{◌≤◌, length, sym, ◌∙◌}
use Rattle.std.proofs.lemmas.Bool.{false≢true}
use Rattle.net_pcap.proofs.Announced.{plain_blocks, record_long}
use Rattle.net_pcap.proofs.sizes.size_of.Goals as goal

pub returns-then-captured-gt-LONGEST_FRAME : goal.returns-then-captured-gt-LONGEST_FRAME
returns-then-captured-gt-LONGEST_FRAME c =
    let enough : 16 ≤ length c.args.front.now = rw c.in-Classic.is at c.requires in
    rw c.in-Classic.is (record_long c.in-Classic.classic c.args.front.now c.number-captured.result enough c.number-captured.ensures c.if-captured-gt-LONGEST_FRAME.true)

pub returns-then-is_section : goal.returns-then-is_section
returns-then-is_section c = rw c.in-Blocks.is (c.section_size.ensures.blocks c.in-Blocks.order)

pub returns-else-is_section : goal.returns-else-is_section
returns-else-is_section c =
    let enough : 12 ≤ length c.args.front.now = rw c.in-Blocks.is at c.requires in
    rw c.in-Blocks.is (plain_blocks c.args.front.now c.in-Blocks.order enough (λ e. absurd (false≢true (sym c.if-is_section.false ∙ c.is_section.ensures.1 e))) c.block_size.result c.block_size.ensures)
