use Rattle.tftp_normal.proofs.Texts.{same_texts}
use Rattle.tftp_normal.proofs.laws.normal_texts_are_equal_as_meanings_are.Goals as goal

pub returns : goal.returns
returns c = same_texts
