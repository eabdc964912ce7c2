use Rattle.std.proofs.Common.{ap, not, ◌∙◌}
use Rattle.audit_rows.proofs.laws.worked_kept.Goals as goal

pub returns-clause-twice : goal.returns-clause-twice
returns-clause-twice c d t x kept = kept.is_twice

pub returns-clause-one_way : goal.returns-clause-one_way
returns-clause-one_way c d t x named carried kept none = kept.is_one_way ∙ ap not none
