use Rattle.std.proofs.Common.{ap}
use Rattle.tftp_netascii.specs.{canonical_wire}
use Rattle.tftp_netascii.proofs.ReadsLemmas.{Reads-unique}
use Rattle.tftp_netascii.proofs.CanonicalLemmas.{Reads-canonical}
use Rattle.tftp_netascii.proofs.laws.canonical_wires_are_written_again.Goals as goal

pub returns : goal.returns
returns c file other reads = ap canonical_wire (Reads-unique _ _ _ reads (Reads-canonical file))
