use Rattle.law_tap.proofs.WorkedStanding.{odd_broken, odd_lossy, odd_unknown}
use Rattle.law_tap.proofs.losses.worked.what_came_from_who_may_be_a_stray_is_not_certain.Goals as goal

pub returns-clause-broken : goal.returns-clause-broken
returns-clause-broken c = odd_broken

pub returns-clause-unknown : goal.returns-clause-unknown
returns-clause-unknown c = odd_unknown

pub returns-clause-lawful : goal.returns-clause-lawful
returns-clause-lawful c = odd_lossy
