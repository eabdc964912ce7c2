use Rattle.tftp_normal.proofs.Headline.{accepted, equal, normal}
use Rattle.tftp_normal.proofs.laws.accepted_texts_are_those_of_whole_runs.Goals as goal

pub returns-clause-accepted : goal.returns-clause-accepted
returns-clause-accepted c = accepted

pub returns-clause-equal : goal.returns-clause-equal
returns-clause-equal c = equal

pub returns-clause-normal : goal.returns-clause-normal
returns-clause-normal c = normal
