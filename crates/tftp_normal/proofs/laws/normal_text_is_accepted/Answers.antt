use Rattle.tftp_normal.proofs.Texts.{is_accepted, normal_accepted}
use Rattle.tftp_normal.proofs.laws.normal_text_is_accepted.Goals as goal

pub returns-clause-of_meaning : goal.returns-clause-of_meaning
returns-clause-of_meaning c = is_accepted

pub returns-clause-of_text : goal.returns-clause-of_text
returns-clause-of_text c = normal_accepted
