use Rattle.std.proofs.Common.{refl}
use Rattle.tftp_nego.specs.{AgreementRule}
use Rattle.law_end.specs.{Rule}
use Rattle.tests_worked.specs.{at_client, only_512_asked, agrees_to_1024}
use Rattle.tests_worked.proofs.ByRules.{refused_verdict}
use Rattle.tests_worked.proofs.Offers.{larger_refused}
use Rattle.tests_worked.proofs.worked_offers.oacks_raise_no_block_size.Goals as goal

pub returns-clause-larger : goal.returns-clause-larger
returns-clause-larger c = larger_refused

pub returns-clause-verdict : goal.returns-clause-verdict
returns-clause-verdict c = refused_verdict at_client only_512_asked agrees_to_1024 (Rule.Agreement AgreementRule.OptionValue) 2 refl refl larger_refused
