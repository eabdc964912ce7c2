use Rattle.law_tap.proofs.EndPorts.{another_client, another_port, two_others}
use Rattle.law_tap.proofs.losses.laws.an_end_that_deals_with_two_is_certain.Goals as goal

pub returns-clause-others : goal.returns-clause-others
returns-clause-others c = λ header later earlier d other at goes went differs. two_others header later earlier d other at goes went differs

pub returns-clause-client : goal.returns-clause-client
returns-clause-client c = λ header later earlier d request named first goes differs. another_client header later earlier d named request first goes differs

pub returns-clause-port : goal.returns-clause-port
returns-clause-port c = λ header later earlier d other named at differs. another_port header later earlier d named other at differs
