use Rattle.std.proofs.Common.{refl}
use Rattle.law_end.specs.{Rule}
use Rattle.tests_worked.specs.{at_client, asks_for_a, one_block_read, only_asked, asks_for_b}
use Rattle.tests_worked.proofs.ByRules.{refused_verdict}
use Rattle.tests_worked.proofs.Offers.{changed_refused, late_request_refused}
use Rattle.tests_worked.proofs.worked_offers.one_request_is_made.Goals as goal

pub returns-clause-another : goal.returns-clause-another
returns-clause-another c = changed_refused

pub returns-clause-late : goal.returns-clause-late
returns-clause-late c = late_request_refused

pub returns-clause-another_verdict : goal.returns-clause-another_verdict
returns-clause-another_verdict c = refused_verdict at_client only_asked asks_for_b Rule.RequestChanged 2 refl refl changed_refused

pub returns-clause-late_verdict : goal.returns-clause-late_verdict
returns-clause-late_verdict c = refused_verdict at_client one_block_read asks_for_a Rule.RequestAfterStart 4 refl refl late_request_refused
