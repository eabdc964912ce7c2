use Rattle.tftp_netascii.proofs.LengthLemmas.{no_longer, as_long}
use Rattle.tftp_netascii.proofs.laws.canonical_wires_are_the_longest.Goals as goal

pub returns-clause-no_longer : goal.returns-clause-no_longer
returns-clause-no_longer c = no_longer

pub returns-clause-as_long : goal.returns-clause-as_long
returns-clause-as_long c = as_long
