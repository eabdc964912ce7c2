use Rattle.law_tap.proofs.LossyDecided.{message_passes, first_passes, outside_passes}
use Rattle.law_tap.proofs.losses_between.laws.one_message_decides_with_losses.Goals as goal

pub returns-clause-message : goal.returns-clause-message
returns-clause-message c = message_passes

pub returns-clause-first : goal.returns-clause-first
returns-clause-first c = first_passes

pub returns-clause-outside : goal.returns-clause-outside
returns-clause-outside c = outside_passes
