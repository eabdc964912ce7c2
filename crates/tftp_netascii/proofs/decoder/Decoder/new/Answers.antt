use Rattle.std.proofs.Common.{[]}
use Rattle.tftp_netascii.proofs.DecoderLemmas.{StandsFor-exists}
use Rattle.tftp_netascii.proofs.decoder.Decoder.new.Goals as goal

pub returns : goal.returns
returns c = StandsFor-exists []
