use Rattle.tftp_normal.proofs.Texts.{one_meaning, accepted_can}
use Rattle.tftp_normal.proofs.laws.accepted_text_has_one_meaning.Goals as goal

pub returns-clause-one : goal.returns-clause-one
returns-clause-one c = one_meaning

pub returns-clause-written : goal.returns-clause-written
returns-clause-written c = accepted_can
