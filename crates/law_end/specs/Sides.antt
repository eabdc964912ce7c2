-- A datagram's ports at its two sides, and which way it went between them.
use Rattle.std.specs.Prelude.{◌≡◌, ℕ, ◌⊎◌, List, ◌∷◌}
use Rattle.tftp_packet.specs.{End, Client, Server}
use Rattle.tftp_packet.specs.Hosts.{Datagram}
use Rattle.tftp_packet.specs.{Dir, In, Out}

-- the port at the server's side of a datagram that was recorded at this end
abbrev pub server_port : End → Datagram → ℕ
server_port Client d = d.remote
server_port Server d = d.local

-- the way of what the server's side sent
abbrev pub from_server : End → Dir
from_server Client = In
from_server Server = Out

-- the payload begins as a request does (RFC 1350, section 5)
abbrev pub BeginsAsRequest : List ℕ → Type 0
BeginsAsRequest payload = (rest : List ℕ) × ((payload ≡ 0 ∷ 1 ∷ rest) ⊎ (payload ≡ 0 ∷ 2 ∷ rest))
