use Rattle.std.proofs.Common.{rules, sym, subst}
use Rattle.law_tap.specs.SaidFigures.{AreFigures, Figures}
use Rattle.law_tap.proofs.FiguresAfter.{low_block, no_low_block, level_block, no_level_block, high_block, no_high_block}
use Rattle.law_tap.proofs.figures.Figures.with_block.Goals as goal

pub returns-in_err-below-clause-none : goal.returns-in_err-below-clause-none
returns-in_err-below-clause-none c = λ s earlier d e bytes asked are says long is.
    let was = subst (λ (f : Figures). AreFigures f s earlier) (sym c.self.view_is) are in
    no_low_block s earlier d e c.args.number bytes says _ was c.args.long long asked (search rules) (search rules)

pub returns-then-number-self-clause-some : goal.returns-then-number-self-clause-some
returns-then-number-self-clause-some c = λ s earlier d e bytes are says long.
    let was = subst (λ (f : Figures). AreFigures f s earlier) (sym c.self.view_is) are in
    low_block s earlier d e c.args.number bytes says _ was c.args.long long c.in_ok-below.below (search rules) (search rules)

pub returns-in_err-tail-clause-none : goal.returns-in_err-tail-clause-none
returns-in_err-tail-clause-none c = λ s earlier d e bytes asked are says long is.
    let was = subst (λ (f : Figures). AreFigures f s earlier) (sym c.self.view_is) are in
    no_level_block s earlier d e c.args.number bytes says _ was c.args.long long asked (search rules) (search rules)

pub returns-then-number-self-2-clause-some : goal.returns-then-number-self-2-clause-some
returns-then-number-self-2-clause-some c = λ s earlier d e bytes are says long.
    let was = subst (λ (f : Figures). AreFigures f s earlier) (sym c.self.view_is) are in
    level_block s earlier d e c.args.number bytes says _ was c.args.long long c.in_ok-tail.tail (search rules) (search rules)

pub returns-in_err-below-2-clause-none : goal.returns-in_err-below-2-clause-none
returns-in_err-below-2-clause-none c = λ s earlier d e bytes asked are says long is.
    let was = subst (λ (f : Figures). AreFigures f s earlier) (sym c.self.view_is) are in
    no_high_block s earlier d e c.args.number bytes says _ was c.args.long long asked (search rules) (search rules)

pub returns-clause-some : goal.returns-clause-some
returns-clause-some c = λ s earlier d e bytes are says long.
    let was = subst (λ (f : Figures). AreFigures f s earlier) (sym c.self.view_is) are in
    high_block s earlier d e c.args.number bytes says _ was c.args.long long c.in_ok-below-2.below (search rules) (search rules)
