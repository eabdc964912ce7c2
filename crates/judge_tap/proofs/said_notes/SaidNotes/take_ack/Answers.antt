use Rattle.std.proofs.Common.{◌∷◌, Ok, sym, subst, ◌∙◌}
use Rattle.std.proofs.lemmas.Bool.{true≢false}
use Rattle.tftp_packet.specs.{Message}
use Rattle.law_end.specs.{IsWrongKind}
use Rattle.law_tap.specs.{FitsSaid, LossyBreaks}
use Rattle.judge_tap.specs.{AreSaidNotes, FindsSaid, SaidNotes}
use Rattle.judge_tap.proofs.SaidAfter.{ack_taken, ack_unexplained, ack_unfit}
use Rattle.judge_tap.proofs.said_notes.SaidNotes.take_ack.Goals as goal

pub returns-in_default : goal.returns-in_default
returns-in_default c = λ s earlier d e are says right.
    subst (λ (n : SaidNotes). AreSaidNotes n s earlier → (IsWrongKind e n.asked.side (Message.Ack c.args.number) → ⊥) → LossyBreaks s earlier d n.asked e (Message.Ack c.args.number) c.broken_by_ack.result) c.self.view_is
    (λ was kind. subst (LossyBreaks s earlier d c.self.inside.asked e (Message.Ack c.args.number)) (sym c.broken_by_ack.ensures)
    (ack_unexplained s earlier d e c.args.number says _ was kind (c.with_ack.ensures.none s earlier d e _ was.figures says c.in_default.is))) are right

pub returns-then-not-fits : goal.returns-then-not-fits
returns-then-not-fits c = λ s earlier d e are says right.
    let number = c.args.number in
    subst (λ (n : SaidNotes). AreSaidNotes n s earlier → (IsWrongKind e n.asked.side (Message.Ack number) → ⊥) → (FitsSaid n.asked n.offered c.in-Some.figures → ⊥) → LossyBreaks s earlier d n.asked e (Message.Ack number) c.broken_by_ack-then-not-fits.result) c.self.view_is
    (λ was kind none. subst (LossyBreaks s earlier d c.self.inside.asked e (Message.Ack number)) (sym c.broken_by_ack-then-not-fits.ensures)
    (ack_unfit s earlier d e number says _ was kind c.in-Some.figures (c.in-Some.ensures.some s earlier d e was.figures says) none)) are right
    (λ fits. true≢false (sym (c.fits.ensures.1 fits) ∙ c.if-not-fits.true))

pub returns : goal.returns
returns c = λ s earlier d e are says right.
    let number = c.args.number in
    let after : SaidNotes = record { rollover = c.self.inside.rollover; asked = c.self.inside.asked; figures = c.in-Some.figures; offered = c.self.inside.agreed; blocks = c.self.inside.blocks; errors = c.self.inside.errors } in
    subst (λ (n : SaidNotes). AreSaidNotes n s earlier → (IsWrongKind e n.asked.side (Message.Ack number) → ⊥) → FitsSaid n.asked n.offered c.in-Some.figures → FindsSaid s earlier d n.asked e (Message.Ack number) (AreSaidNotes after s (d ∷ earlier)) (Ok tt)) c.self.view_is
    (λ was kind fits. ack_taken s earlier d e number says _ was kind c.in-Some.figures (c.in-Some.ensures.some s earlier d e was.figures says) fits) are right
    (c.fits.ensures.0 c.if-not-fits.false)
