-- The first rule that a datagram breaks.
use Rattle.std.proofs.Common.{◌≡◌, List, ◌∷◌}
use Rattle.tftp_packet.proofs.FirstOf.{first_number}
use Rattle.tftp_packet.specs.Hosts.{Datagram, Header}
use Rattle.law_end.specs.{number_of, Broken, FirstBroken, Rule, OneEnded, IsRefused}

pub refused_does_not_pass : (header : Header) (earlier : List Datagram) (d : Datagram) (rule : Rule) → IsRefused header earlier d rule → OneEnded header (d ∷ earlier) → ⊥
refused_does_not_pass header earlier d rule refused passes = passes.0.lawful rule refused.broken.0

pub one_first_broken : (header : Header) (earlier : List Datagram) (d : Datagram) (r q : Rule) → FirstBroken header earlier d r → FirstBroken header earlier d q → number_of r ≡ number_of q
one_first_broken header earlier d = first_number number_of (Broken header earlier d)
