use Rattle.std.proofs.Common.{refl}
use Rattle.tftp_nego.specs.{AgreementRule}
use Rattle.law_end.specs.{Rule}
use Rattle.tests_worked.specs.{at_client, only_asked, agrees_to_none, agrees_unasked}
use Rattle.tests_worked.proofs.ByRules.{refused_verdict}
use Rattle.tests_worked.proofs.Offers.{none_refused, unasked_refused}
use Rattle.tests_worked.proofs.worked_offers.oacks_agree_to_what_was_asked.Goals as goal

pub returns-clause-empty : goal.returns-clause-empty
returns-clause-empty c = none_refused

pub returns-clause-unasked : goal.returns-clause-unasked
returns-clause-unasked c = unasked_refused

pub returns-clause-empty_verdict : goal.returns-clause-empty_verdict
returns-clause-empty_verdict c = refused_verdict at_client only_asked agrees_to_none (Rule.Agreement AgreementRule.OackEmpty) 2 refl refl none_refused

pub returns-clause-unasked_verdict : goal.returns-clause-unasked_verdict
returns-clause-unasked_verdict c = refused_verdict at_client only_asked agrees_unasked (Rule.Agreement AgreementRule.OptionNotRequested) 2 refl refl unasked_refused
