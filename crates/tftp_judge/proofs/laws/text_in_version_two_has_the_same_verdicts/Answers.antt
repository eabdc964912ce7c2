use Rattle.tftp_judge.proofs.SameVerdicts.{same_in_two}
use Rattle.tftp_judge.proofs.laws.text_in_version_two_has_the_same_verdicts.Goals as goal

pub returns : goal.returns
returns c = same_in_two
