use Rattle.std.proofs.Common.{refl}
use Rattle.tftp_capture.proofs.laws.worked_text_is_in_version_two.Goals as goal

pub returns : goal.returns
returns c = refl
