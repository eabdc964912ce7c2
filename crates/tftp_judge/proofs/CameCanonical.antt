-- A wire that is as long as the one that is written for its file is that one.
use Rattle.std.proofs.Common.{◌≡◌, ℕ, List, length, refl}
use Rattle.tftp_packet.specs.{Mode, Octet, Netascii}
use Rattle.law_end.specs.{carried_file, written_wire}
use Rattle.tftp_netascii.proofs.ReadsLemmas.{Reads-file_of}
use Rattle.tftp_netascii.proofs.LengthLemmas.{as_long}

pub came_canonical : (mode : Mode) (wire : List ℕ) → length wire ≡ length (written_wire mode (carried_file mode wire)) → wire ≡ written_wire mode (carried_file mode wire)
came_canonical Octet wire long = refl
came_canonical Netascii wire long = as_long wire _ (Reads-file_of wire) long
