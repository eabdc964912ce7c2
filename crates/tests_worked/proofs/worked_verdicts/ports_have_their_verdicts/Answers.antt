use Rattle.std.proofs.Common.{refl}
use Rattle.law_model.specs.{PortRule}
use Rattle.law_end.specs.{Rule}
use Rattle.tests_worked.specs.{at_client, acknowledges_nobody, acknowledges_stray, before_answering, comes_to_another_port}
use Rattle.tests_worked.proofs.ByRules.{refused_verdict}
use Rattle.tests_worked.proofs.RefusedMore.{foreign_refused, nobody_refused, stray_refused}
use Rattle.tests_worked.proofs.worked_verdicts.ports_have_their_verdicts.Goals as goal

pub returns-clause-foreign : goal.returns-clause-foreign
returns-clause-foreign c = refused_verdict at_client before_answering comes_to_another_port (Rule.Port PortRule.Foreign) 4 refl refl foreign_refused

pub returns-clause-wrong : goal.returns-clause-wrong
returns-clause-wrong c = refused_verdict at_client before_answering acknowledges_nobody (Rule.Port PortRule.Wrong) 4 refl refl nobody_refused

pub returns-clause-stray : goal.returns-clause-stray
returns-clause-stray c = refused_verdict at_client before_answering acknowledges_stray (Rule.Port PortRule.BadAnswer) 4 refl refl stray_refused
