use Rattle.tftp_packet.proofs.AsWritten.{one_request, one_oack}
use Rattle.tftp_packet.proofs.laws.written_is_one.Goals as goal

pub returns-clause-request : goal.returns-clause-request
returns-clause-request c = one_request

pub returns-clause-oack : goal.returns-clause-oack
returns-clause-oack c = one_oack
