-- The one file that a wire carries.
use Rattle.std.proofs.Common.{◌≡◌, ◌↔◌, ℕ, List, refl, subst, sym}
use Rattle.tftp_packet.specs.{Mode, Octet, Netascii}
use Rattle.tftp_netascii.proofs.ReadsLemmas.{Reads-file_of, Reads-is}
use Rattle.law_end.specs.{ReadsAs, carried_file}

pub carried_file-reads : (mode : Mode) (wire : List ℕ) → ReadsAs mode wire (carried_file mode wire)
carried_file-reads Octet wire = refl
carried_file-reads Netascii wire = Reads-file_of wire

pub carried_file-is : (mode : Mode) (wire file : List ℕ) → ReadsAs mode wire file → file ≡ carried_file mode wire
carried_file-is Octet wire file reads = sym reads
carried_file-is Netascii wire file reads = Reads-is wire file reads

pub carried_one : (mode : Mode) (wire file : List ℕ) → ReadsAs mode wire file ↔ (file ≡ carried_file mode wire)
carried_one mode wire file = (carried_file-is mode wire file, λ is. subst (ReadsAs mode wire) (sym is) (carried_file-reads mode wire))
