use Rattle.std.proofs.Common.{refl, sym, subst, rules}
use Rattle.law_model.proofs.Results.{where_err}
use Rattle.judge_tap.specs.{Seen, AreSeen}
use Rattle.judge_tap.proofs.SeenNoted.{block_again, block_next, block_above, block_absent}
use Rattle.judge_tap.proofs.seen.Seen.note_block.Goals as goal

pub returns-then-number-front-clause-ok : goal.returns-then-number-front-clause-ok
returns-then-number-front-clause-ok c = λ passed d bytes are says.
    let was = subst (λ (s : Seen). AreSeen s passed) (sym c.self.view_is) are in
    block_again passed d c.args.number bytes says _ was _ refl refl refl refl (search rules)

pub returns-then-number-front-gt1-clause-ok : goal.returns-then-number-front-gt1-clause-ok
returns-then-number-front-gt1-clause-ok c = λ passed d bytes are says.
    let was = subst (λ (s : Seen). AreSeen s passed) (sym c.self.view_is) are in
    block_above passed d c.args.number bytes says _ was _ _ refl refl refl refl (search rules) c.in_ok-insert.ensures.updates.0

pub returns-clause-ok : goal.returns-clause-ok
returns-clause-ok c = λ passed d bytes are says.
    let was = subst (λ (s : Seen). AreSeen s passed) (sym c.self.view_is) are in
    block_next passed d c.args.number bytes says _ was _ _ refl refl refl refl (search rules) c.front_after-self-inside.ensures.within c.front_after-self-inside.ensures.held c.front_after-self-inside.ensures.next

pub returns-in_err-insert-clause-absent : goal.returns-in_err-insert-clause-absent
returns-in_err-insert-clause-absent c = λ passed are. where_err c.from_residual.result
    (λ has. block_absent passed _ c.args.number (subst (λ (s : Seen). AreSeen s passed) (sym c.self.view_is) are) (search rules) c.in_err-insert.ensures.absent has)
