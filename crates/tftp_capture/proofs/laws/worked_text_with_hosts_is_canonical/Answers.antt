use Rattle.std.proofs.Common.{refl}
use Rattle.std.specs.Fmt.{digits}
use Rattle.hex.specs.Hex.{encode_with}
use Rattle.tftp_capture.proofs.laws.worked_text_with_hosts_is_canonical.Goals as goal

pub returns : goal.returns
unfolding digits encode_with
returns c = refl
