use Rattle.law_tap.proofs.WorkedLossesBetween.{read_between_lossy}
use Rattle.law_tap.proofs.WorkedLossyRules.{request_alone, silent_server}
use Rattle.law_tap.proofs.losses_between.worked.an_ack_to_a_silent_server_depends.Goals as goal

pub returns-clause-before : goal.returns-clause-before
returns-clause-before c = request_alone

pub returns-clause-broken : goal.returns-clause-broken
returns-clause-broken c = silent_server

pub returns-clause-lawful : goal.returns-clause-lawful
returns-clause-lawful c = read_between_lossy
