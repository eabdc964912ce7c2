use Rattle.std.proofs.Common.{rules, ◌≡◌, ◌⊎◌, inl, inr, ◌≤◌, ◌∷◌, refl, sym, subst, ap, ◌∙◌}
use Rattle.std.proofs.lemmas.Bool.{true≢false}
use Rattle.std.specs.FinMap as map
use Rattle.tftp_packet.specs.{Message}
use Rattle.tftp_ends.specs.Blocks.{Places}
use Rattle.tftp_ends.specs.Blocks.Store.{New, Same, Differs}
use Rattle.tftp_ends.specs.Blocks.Placement.{placing}
use Rattle.tftp_ends.specs.declared.blocks.delivered.PutOutcome.{PutOutcome}
use Rattle.tftp_ends.specs.declared.blocks.delivered.PutOutcome.TheVariants as variant
use Rattle.law_end.specs.{IsWrongKind}
use Rattle.law_tap.specs.{FitsSaid, NothingExplains}
use Rattle.judge_tap.specs.{AreSaidNotes, FindsSaid, SaidNotes}
use Rattle.judge_tap.proofs.SaidAfter.{block_differs, block_stopped, block_taken, block_unfit}
use Rattle.judge_tap.proofs.said_notes.SaidNotes.take_block.Goals as goal
use Rattle.judge_tap.proofs.said_notes.SaidNotes.take_block.Goals.{in-New, in-Differs}

is_kept : (x : PutOutcome) → (x ≡ variant.New) ⊎ (x ≡ variant.Same) → placing x ≡ Differs → ⊥
is_kept x (inl new) differs = let no : New ≡ Differs = sym (ap placing new) ∙ differs in absurd (cc)
is_kept x (inr same) differs = let no : Same ≡ Differs = sym (ap placing same) ∙ differs in absurd (cc)

pub returns-in_default : goal.returns-in_default
returns-in_default c = λ s earlier d e are says right.
    subst (λ (n : SaidNotes). AreSaidNotes n s earlier → NothingExplains s n.asked (d ∷ earlier)) c.self.view_is
    (λ was. c.with_block.ensures.none s earlier d e c.args.bytes.now _ was.figures says refl c.in_default.is) are

pub returns-then-not-fits : goal.returns-then-not-fits
returns-then-not-fits c = λ s earlier d e are says right.
    let said = Message.Data c.args.number c.args.bytes.now in
    subst (λ (n : SaidNotes). AreSaidNotes n s earlier → (IsWrongKind e n.asked.side said → ⊥) → (FitsSaid n.asked n.offered c.in-Some.figures → ⊥) → NothingExplains s n.asked (d ∷ earlier)) c.self.view_is
    (λ was kind none. block_unfit s earlier d e c.args.number c.args.bytes.now says _ was kind c.in-Some.figures (c.in-Some.ensures.some s earlier d e c.args.bytes.now was.figures says refl) none) are right
    (λ fits. true≢false (sym (c.fits.ensures.1 fits) ∙ c.if-not-fits.true))

pub returns-in_err-put : goal.returns-in_err-put
returns-in_err-put c = λ s earlier d e are says right.
    block_stopped s earlier d e c.args.number c.args.bytes.now says c.args.self.now are right _ c.from_residual.result c.from_residual.ensures.1
    (ap (λ (n : SaidNotes). map.get n.blocks c.args.number) (sym c.self.view_is) ∙ c.in_err-put.ensures.absent)

pub returns : goal.returns
returns c = λ s earlier d e are says right.
    let number = c.args.number in
    let bytes = c.args.bytes.now in
    let after : SaidNotes = record { rollover = c.self.inside.rollover; asked = c.self.inside.asked; figures = c.in-Some.figures; offered = c.self.inside.agreed; blocks = c.put.new.self; errors = c.self.inside.errors } in
    let low : 1 ≤ number = search rules in
    elim c.match-branch-2.branch [
      | in-New w ↦
          subst (λ (n : SaidNotes). AreSaidNotes n s earlier → (IsWrongKind e n.asked.side (Message.Data number bytes) → ⊥) → FitsSaid n.asked n.offered c.in-Some.figures
          → FindsSaid s earlier d n.asked e (Message.Data number bytes) (AreSaidNotes after s (d ∷ earlier)) c.match-branch-2.result) c.self.view_is
          (λ was kind fits. subst (FindsSaid s earlier d c.self.inside.asked e (Message.Data number bytes) (AreSaidNotes after s (d ∷ earlier))) (sym w.result-is)
          (block_taken s earlier d e number bytes says _ was kind low c.in-Some.figures (c.in-Some.ensures.some s earlier d e bytes was.figures says refl) fits c.put.new.self (placing c.in_ok-put.field-0) c.in_ok-put.ensures.ok (is_kept c.in_ok-put.field-0 w.in-New.is))) are right
          (c.fits.ensures.0 c.if-not-fits.false)
      | in-Differs w ↦
          subst (λ (n : SaidNotes). AreSaidNotes n s earlier → (IsWrongKind e n.asked.side (Message.Data number bytes) → ⊥)
          → FindsSaid s earlier d n.asked e (Message.Data number bytes) (AreSaidNotes after s (d ∷ earlier)) c.match-branch-2.result) c.self.view_is
          (λ was kind. subst (FindsSaid s earlier d c.self.inside.asked e (Message.Data number bytes) (AreSaidNotes after s (d ∷ earlier))) (sym w.result-is)
          (let placed = subst (λ (x : PutOutcome). Places c.self.inside.blocks c.put.new.self number bytes (placing x)) w.in-Differs.is c.in_ok-put.ensures.ok in
          block_differs s earlier d e number bytes says _ was kind placed.0.0 placed.0.1 placed.0.2)) are right
    ]
