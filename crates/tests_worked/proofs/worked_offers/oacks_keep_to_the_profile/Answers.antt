use Rattle.std.proofs.Common.{refl}
use Rattle.tftp_nego.specs.{AgreementRule}
use Rattle.law_end.specs.{Rule}
use Rattle.tests_worked.specs.{at_client, only_multicast_asked, agrees_to_multicast, only_foo_asked, agrees_to_foo}
use Rattle.tests_worked.proofs.ByRules.{refused_verdict}
use Rattle.tests_worked.proofs.Offers.{foo_refused, multicast_refused}
use Rattle.tests_worked.proofs.worked_offers.oacks_keep_to_the_profile.Goals as goal

pub returns-clause-multicast : goal.returns-clause-multicast
returns-clause-multicast c = multicast_refused

pub returns-clause-unknown : goal.returns-clause-unknown
returns-clause-unknown c = foo_refused

pub returns-clause-multicast_verdict : goal.returns-clause-multicast_verdict
returns-clause-multicast_verdict c = refused_verdict at_client only_multicast_asked agrees_to_multicast (Rule.Agreement AgreementRule.MulticastAgreed) 2 refl refl multicast_refused

pub returns-clause-unknown_verdict : goal.returns-clause-unknown_verdict
returns-clause-unknown_verdict c = refused_verdict at_client only_foo_asked agrees_to_foo (Rule.Agreement AgreementRule.OptionOutsideProfile) 2 refl refl foo_refused
