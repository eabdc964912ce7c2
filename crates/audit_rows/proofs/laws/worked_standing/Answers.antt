use Rattle.std.proofs.Common.{◌≡◌, rules, tests, Bool, true, false, Option, Some, None, refl}
use Rattle.audit_rows.specs.Viewing.{where_asked_once}
use Rattle.audit_rows.proofs.laws.worked_standing.Goals as goal

pub returns-clause-gone_on : goal.returns-clause-gone_on
returns-clause-gone_on c options = (Some true, search (rules, tests), refl)

pub returns-clause-before : goal.returns-clause-before
returns-clause-before c options = (None, search (rules, tests), refl)

pub returns-clause-own : goal.returns-clause-own
returns-clause-own c options = (Some true, search (rules, tests), refl)

pub returns-clause-back : goal.returns-clause-back
returns-clause-back c sizes = (None, search (rules, tests), refl)

pub returns-clause-lock_step : goal.returns-clause-lock_step
returns-clause-lock_step c sizes = (Some true, search (rules, tests), refl)

pub returns-clause-asked_more : goal.returns-clause-asked_more
returns-clause-asked_more c options = (Some true, search (rules, tests), refl)

-- nothing stands then
never : (alone : Option Bool) → Some true ≡ where_asked_once true alone → ⊥
never None is = let no : Some true ≡ None = is in absurd (cc)
never (Some true) is = let no : Some true ≡ None = is in absurd (cc)
never (Some false) is = let no : Some true ≡ Some false = is in absurd (cc)

pub returns-clause-said_once : goal.returns-clause-said_once
returns-clause-said_once c options (alone, is, said) = never alone said

pub returns-clause-again : goal.returns-clause-again
returns-clause-again c rollover options = refl
