use Rattle.std.proofs.Common.{◌≡◌, [], Contains, Some, None, sym, subst, ◌∙◌}
use Rattle.law_model.proofs.ModelLemmas.Members.{contains_first}
use Rattle.tftp_rows.specs.Accusing.{IsOfClient}
use Rattle.tftp_rows.proofs.laws.worked_accusing.Goals as goal

pub returns-clause-accuses : goal.returns-clause-accuses
returns-clause-accuses c clients t r a is_client rows both accused nobody =
    let none = nobody.0 is_client r (subst (λ l. Contains l r) (sym rows) (contains_first r [])) (subst IsOfClient (sym both) tt) in
    let no : None ≡ Some a = sym none ∙ accused in
    absurd (cc)

pub returns-clause-none : goal.returns-clause-none
returns-clause-none c clients = tt

pub returns-clause-between : goal.returns-clause-between
returns-clause-between c clients carried = tt

pub returns-clause-both : goal.returns-clause-both
returns-clause-both c is = is
