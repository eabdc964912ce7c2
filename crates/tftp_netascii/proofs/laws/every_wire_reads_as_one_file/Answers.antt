use Rattle.tftp_netascii.proofs.ReadsLemmas.{Reads-file_of, Reads-unique}
use Rattle.tftp_netascii.proofs.DecoderLemmas.{Reads-exists}
use Rattle.tftp_netascii.proofs.laws.every_wire_reads_as_one_file.Goals as goal

pub returns-clause-exists : goal.returns-clause-exists
returns-clause-exists c = Reads-exists

pub returns-clause-unique : goal.returns-clause-unique
returns-clause-unique c = Reads-unique

pub returns-clause-computed : goal.returns-clause-computed
returns-clause-computed c = Reads-file_of
