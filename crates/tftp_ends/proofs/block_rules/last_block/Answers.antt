use Rattle.std.proofs.Common.{◌+◌, ◌/◌, sym, subst}
use Rattle.tftp_ends.specs.{IsEnd, IsShortTop}
use Rattle.tftp_ends.proofs.EndLengths.{end_by_size, end_by_block}
use Rattle.tftp_ends.proofs.block_rules.last_block.Goals as goal

pub returns-in-Some : goal.returns-in-Some
returns-in-Some g c =
    subst (λ b. IsEnd c.args.terms.now (g.D.Delivered.held c.args.store.now) (c.in-Some.size / b + 1)) (sym c.from.ensures)
    (end_by_size _ _ c.requires.sound c.in-Some.size c.in-Some.is)

pub returns-in-Some-short_block : goal.returns-in-Some-short_block
returns-in-Some-short_block g c =
    subst (IsEnd c.args.terms.now (g.D.Delivered.held c.args.store.now)) (sym c.from-in-Some-short_block.ensures)
    (end_by_block _ _ _ c.in-None.is (subst (λ b. IsShortTop b (g.D.Delivered.held c.args.store.now) c.in-Some-short_block.last) c.from-in-None.ensures c.in-Some-short_block.ensures))
