use Rattle.std.proofs.Common.{rules, sym, subst, ◌∙◌}
use Rattle.law_tap.specs.SaidFigures.{AreFigures, Figures}
use Rattle.law_tap.proofs.FiguresAfter.{low_ack, high_ack, no_ack, zero_then, zero_else}
use Rattle.law_tap.proofs.figures.Figures.with_ack.Goals as goal
use Rattle.law_tap.proofs.figures.Figures.with_ack.Goals.{then-self, else-self}

pub returns-then-number-self-clause-some : goal.returns-then-number-self-clause-some
returns-then-number-self-clause-some c = λ s earlier d e are says.
    let was = subst (λ (f : Figures). AreFigures f s earlier) (sym c.self.view_is) are in
    elim c.if-self.branch [
      | then-self w ↦ low_ack s earlier d e c.args.number says _ was c.if-self.result (search rules) (zero_then c.args.number c.self.inside.zero c.if-self.result (search rules) (search rules))
      | else-self w ↦ low_ack s earlier d e c.args.number says _ was c.if-self.result (search rules) (zero_else c.args.number c.self.inside.zero c.if-self.result (search rules) (search rules))
    ]

pub returns-in_err-below-clause-none : goal.returns-in_err-below-clause-none
returns-in_err-below-clause-none c = λ s earlier d e asked are says is.
    let was = subst (λ (f : Figures). AreFigures f s earlier) (sym c.self.view_is) are in
    no_ack s earlier d e c.args.number says _ was asked (search rules) (search rules)

pub returns-clause-some : goal.returns-clause-some
returns-clause-some c = λ s earlier d e are says.
    let was = subst (λ (f : Figures). AreFigures f s earlier) (sym c.self.view_is) are in
    high_ack s earlier d e c.args.number says _ was c.in_ok-below.below (search rules) (search rules)
