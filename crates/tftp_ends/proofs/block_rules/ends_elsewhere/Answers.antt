use Rattle.std.proofs.Common.{◌≡◌, ◌<◌, inl, inr, arith}
use Rattle.std.proofs.lemmas.Bool.Decides.{nat_tests}
use Rattle.tftp_ends.proofs.EndLengths.{short_top}
use Rattle.tftp_ends.proofs.block_rules.ends_elsewhere.Goals as goal

pub returns-then-number-highest-clause-wrong : goal.returns-then-number-highest-clause-wrong
returns-then-number-highest-clause-wrong g c = λ yes.
    let low = c.if-number-highest.true in
    let less : c.args.len < c.args.block_size = grind (arith, nat_tests) in
    elim (short_top c.args.block_size (g.D.Delivered.held c.args.store.now) c.args.highest c.requires.highest c.requires.orderly (omega arith)) [
      | inl top ↦ inl (c.args.highest, top, inr (inl (low, less)))
      | inr whole ↦ inr (whole, less, (c.args.highest, c.requires.highest, omega arith))
    ]

pub returns-then-number-highest-clause-right : goal.returns-then-number-highest-clause-right
returns-then-number-highest-clause-right g c = λ yes.
    let low = c.if-number-highest.true in
    let fits = c.requires.fits in
    let equal : c.args.len ≡ c.args.block_size = grind (arith, nat_tests) in
    elim (short_top c.args.block_size (g.D.Delivered.held c.args.store.now) c.args.highest c.requires.highest c.requires.orderly (omega arith)) [
      | inl top ↦ inl (c.args.highest, top, inl (low, equal))
      | inr whole ↦ inr (whole, inl equal)
    ]
