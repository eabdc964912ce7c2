use Rattle.tftp_normal.proofs.TextLength.{text_fits}
use Rattle.tftp_normal.proofs.Texts.{normal_lawful, normal_unnamed, normal_says}
use Rattle.tftp_normal.proofs.laws.normal_text_says_the_normal_capture.Goals as goal

pub returns-clause-lawful : goal.returns-clause-lawful
returns-clause-lawful c = λ rollover m can. (normal_lawful rollover m can, normal_unnamed rollover m can)

pub returns-clause-fits : goal.returns-clause-fits
returns-clause-fits c = text_fits

pub returns-clause-says : goal.returns-clause-says
returns-clause-says c = normal_says
