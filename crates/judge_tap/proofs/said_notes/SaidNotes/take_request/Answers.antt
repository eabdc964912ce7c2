use Rattle.std.proofs.Common.{◌∷◌, Ok, subst}
use Rattle.tftp_packet.specs.{Message, parts}
use Rattle.law_end.specs.{IsWrongKind}
use Rattle.judge_tap.specs.{AreSaidNotes, FindsSaid, SaidNotes}
use Rattle.judge_tap.proofs.SaidAfter.{request_again}
use Rattle.judge_tap.proofs.said_notes.SaidNotes.take_request.Goals as goal

pub returns-then-same_request : goal.returns-then-same_request
returns-then-same_request c = λ s earlier d e are says right.
    subst (λ (n : SaidNotes). AreSaidNotes n s earlier → (IsWrongKind e n.asked.side (Message.Request (parts c.args.now.now)) → ⊥) → FindsSaid s earlier d n.asked e (Message.Request (parts c.args.now.now)) (AreSaidNotes n s (d ∷ earlier)) (Ok tt))
    c.self.view_is (λ was kind. request_again s earlier d e (parts c.args.now.now) says _ was kind (c.same_request.ensures.0 c.if-same_request.true)) are right
