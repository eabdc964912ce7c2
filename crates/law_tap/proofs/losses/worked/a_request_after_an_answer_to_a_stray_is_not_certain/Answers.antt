use Rattle.law_tap.proofs.WorkedStanding.{again_broken, again_lossy, again_unknown}
use Rattle.law_tap.proofs.losses.worked.a_request_after_an_answer_to_a_stray_is_not_certain.Goals as goal

pub returns-clause-broken : goal.returns-clause-broken
returns-clause-broken c = again_broken

pub returns-clause-unknown : goal.returns-clause-unknown
returns-clause-unknown c = again_unknown

pub returns-clause-lawful : goal.returns-clause-lawful
returns-clause-lawful c = again_lossy
