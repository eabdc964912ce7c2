use Rattle.std.proofs.Common.{subst, sym}
use Rattle.tftp_netascii.specs.{Reads}
use Rattle.tftp_netascii.proofs.ReadsLemmas.{Reads-unique}
use Rattle.tftp_netascii.proofs.CanonicalLemmas.{Reads-canonical}
use Rattle.tftp_netascii.proofs.laws.canonical_wires_read_as_their_files.Goals as goal

pub returns-clause-read_back : goal.returns-clause-read_back
returns-clause-read_back c = Reads-canonical

pub returns-clause-apart : goal.returns-clause-apart
returns-clause-apart c file other same =
    Reads-unique _ _ _ (Reads-canonical file) (subst (λ wire. Reads wire other) (sym same) (Reads-canonical other))
