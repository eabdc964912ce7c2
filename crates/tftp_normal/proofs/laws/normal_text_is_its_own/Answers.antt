use Rattle.tftp_normal.proofs.Texts.{normal_again}
use Rattle.tftp_normal.proofs.laws.normal_text_is_its_own.Goals as goal

pub returns : goal.returns
returns c = normal_again
