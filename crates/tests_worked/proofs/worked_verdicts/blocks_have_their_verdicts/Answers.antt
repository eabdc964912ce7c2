use Rattle.std.proofs.Common.{refl}
use Rattle.law_model.specs.{EndRule}
use Rattle.law_end.specs.{Rule}
use Rattle.tests_worked.specs.{at_client, before_changed_block, before_going_back, before_last_number, before_short_block, before_taking_offer, block_too_early, block_zero, changed_block, goes_back, last_number, only_asked, short_block, before_skip, block_two}
use Rattle.tests_worked.proofs.ByRules.{refused_verdict}
use Rattle.tests_worked.proofs.Refused.{early_refused, last_refused, short_refused, skip_refused, back_refused, changed_refused}
use Rattle.tests_worked.proofs.RefusedMore.{zero_block_refused}
use Rattle.tests_worked.proofs.worked_verdicts.blocks_have_their_verdicts.Goals as goal

pub returns-clause-early : goal.returns-clause-early
returns-clause-early c = refused_verdict at_client before_taking_offer block_too_early (Rule.Block EndRule.NotStarted) 3 refl refl early_refused

pub returns-clause-zero : goal.returns-clause-zero
returns-clause-zero c = refused_verdict at_client only_asked block_zero (Rule.Block EndRule.BlockZero) 2 refl refl zero_block_refused

pub returns-clause-last : goal.returns-clause-last
returns-clause-last c = refused_verdict at_client before_last_number last_number (Rule.Block EndRule.BeyondBlock65535) 4 refl refl last_refused

pub returns-clause-short : goal.returns-clause-short
returns-clause-short c = refused_verdict at_client before_short_block short_block (Rule.Block EndRule.BlockLength) 6 refl refl short_refused

pub returns-clause-skipped : goal.returns-clause-skipped
returns-clause-skipped c = refused_verdict at_client before_skip block_two (Rule.Block EndRule.BlockSkipped) 3 refl refl skip_refused

pub returns-clause-back : goal.returns-clause-back
returns-clause-back c = refused_verdict at_client before_going_back goes_back (Rule.Block EndRule.GoneBack) 7 refl refl back_refused

pub returns-clause-changed : goal.returns-clause-changed
returns-clause-changed c = refused_verdict at_client before_changed_block changed_block (Rule.Block EndRule.BlockChanged) 5 refl refl changed_refused
