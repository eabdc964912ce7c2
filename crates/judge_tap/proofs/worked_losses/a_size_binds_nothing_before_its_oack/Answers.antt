use Rattle.judge_tap.proofs.WorkedLossy.{eight_do_not, usual_fits}
use Rattle.judge_tap.proofs.worked_losses.a_size_binds_nothing_before_its_oack.Goals as goal

pub returns-clause-unseen : goal.returns-clause-unseen
returns-clause-unseen c = usual_fits

pub returns-clause-lowered : goal.returns-clause-lowered
returns-clause-lowered c = eight_do_not
