use Rattle.std.proofs.Common.{◌∷◌, sym, subst, ap, ◌∙◌}
use Rattle.tftp_packet.specs.{Message}
use Rattle.law_end.specs.{IsWrongKind}
use Rattle.judge_tap.specs.{AreSaidNotes, FindsSaid, IsErrorPut, SaidNotes, error_of}
use Rattle.judge_tap.proofs.SaidAfter.{error_differs, error_stopped, error_taken}
use Rattle.judge_tap.proofs.said_notes.SaidNotes.take_error.Goals as goal
use Rattle.judge_tap.proofs.said_notes.SaidNotes.take_error.Goals.{then-branch, else-branch}

pub returns-in_err-put : goal.returns-in_err-put
returns-in_err-put c = λ s earlier d apart are says right.
    error_stopped s earlier d c.args.end c.args.code c.args.message.now says c.args.self.now are right _ c.from_residual.result c.from_residual.ensures.1
    (ap (λ (n : SaidNotes). error_of n.errors c.args.end) (sym c.self.view_is) ∙ c.in_err-put.ensures.absent)

pub returns : goal.returns
returns c = λ s earlier d apart are says right.
    let said = Message.Error c.args.code c.args.message.now in
    let after : SaidNotes = record { rollover = c.self.inside.rollover; asked = c.self.inside.asked; figures = c.self.inside.figures; offered = c.self.inside.agreed; blocks = c.self.inside.blocks; errors = c.put.new.self } in
    elim c.if-branch.branch [
      | then-branch w ↦
          subst (λ (n : SaidNotes). AreSaidNotes n s earlier → (IsWrongKind c.args.end n.asked.side said → ⊥) → FindsSaid s earlier d n.asked c.args.end said (AreSaidNotes after s (d ∷ earlier)) c.if-branch.result) c.self.view_is
          (λ was kind. subst (FindsSaid s earlier d c.self.inside.asked c.args.end said (AreSaidNotes after s (d ∷ earlier))) (sym w.result-is)
          (error_taken s earlier d c.args.end c.args.code c.args.message.now says _ was kind apart c.put.new.self (subst (IsErrorPut (error_of c.self.inside.errors c.args.end) (c.args.code, c.args.message.now) (error_of c.put.new.self c.args.end)) w.if-branch.true c.in_ok-put.ensures.ok) c.put.ensures.others)) are right
      | else-branch w ↦
          subst (λ (n : SaidNotes). AreSaidNotes n s earlier → (IsWrongKind c.args.end n.asked.side said → ⊥) → FindsSaid s earlier d n.asked c.args.end said (AreSaidNotes after s (d ∷ earlier)) c.if-branch.result) c.self.view_is
          (λ was kind. subst (FindsSaid s earlier d c.self.inside.asked c.args.end said (AreSaidNotes after s (d ∷ earlier))) (sym w.result-is)
          (error_differs s earlier d c.args.end c.args.code c.args.message.now says _ was kind c.put.new.self (subst (IsErrorPut (error_of c.self.inside.errors c.args.end) (c.args.code, c.args.message.now) (error_of c.put.new.self c.args.end)) w.if-branch.false c.in_ok-put.ensures.ok))) are right
    ]
