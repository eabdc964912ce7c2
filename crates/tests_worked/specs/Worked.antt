-- Captures of small transfers, recorded at the client and at the server.
use Rattle.std.specs.Prelude.{ℕ, List, [], ◌∷◌, ◌++◌, codes, None}
use Rattle.tftp_packet.specs.{Client, Server}
use Rattle.tftp_packet.specs.Hosts.{Datagram, Header}
use Rattle.tftp_packet.specs.{In, Out}

abbrev pub at_client : Header
at_client = record { named = Client; service = 69; rollover = None }

-- the hosts of the two ends: a capture names that of the other end
abbrev pub server_host : List ℕ
server_host = codes "10.0.0.1"

abbrev pub client_host : List ℕ
client_host = codes "10.0.0.2"

-- RRQ "a" in mode "octet"
abbrev pub asks_for_a : Datagram
asks_for_a = record { dir = Out; local = 40000; host = server_host; remote = 69; payload = 0 ∷ 1 ∷ 97 ∷ 0 ∷ 111 ∷ 99 ∷ 116 ∷ 101 ∷ 116 ∷ 0 ∷ [] }

-- DATA 1, "hi"
abbrev pub brings_hi : Datagram
brings_hi = record { dir = In; local = 40000; host = server_host; remote = 41000; payload = 0 ∷ 3 ∷ 0 ∷ 1 ∷ 104 ∷ 105 ∷ [] }

-- ACK 1
abbrev pub acknowledges_hi : Datagram
acknowledges_hi = record { dir = Out; local = 40000; host = server_host; remote = 41000; payload = 0 ∷ 4 ∷ 0 ∷ 1 ∷ [] }

-- DATA 2, "ii", after a block that was the last
abbrev pub brings_more : Datagram
brings_more = record { dir = In; local = 40000; host = server_host; remote = 41000; payload = 0 ∷ 3 ∷ 0 ∷ 2 ∷ 105 ∷ 105 ∷ [] }

abbrev pub one_block_read : List Datagram
one_block_read = asks_for_a ∷ brings_hi ∷ acknowledges_hi ∷ []

abbrev pub read_without_its_ack : List Datagram
read_without_its_ack = asks_for_a ∷ brings_hi ∷ []

abbrev pub read_past_its_end : List Datagram
read_past_its_end = asks_for_a ∷ brings_hi ∷ brings_more ∷ []

-- something from another port, and ERROR 5 in answer
abbrev pub comes_astray : Datagram
comes_astray = record { dir = In; local = 40000; host = server_host; remote = 42000; payload = 255 ∷ [] }

abbrev pub answers_stray : Datagram
answers_stray = record { dir = Out; local = 40000; host = server_host; remote = 42000; payload = 0 ∷ 5 ∷ 0 ∷ 5 ∷ 0 ∷ [] }

abbrev pub read_with_a_stray : List Datagram
read_with_a_stray = asks_for_a ∷ brings_hi ∷ comes_astray ∷ answers_stray ∷ acknowledges_hi ∷ []

-- a server whose requests come to port 6969, and which goes on from port 3000
abbrev pub at_server : Header
at_server = record { named = Server; service = 6969; rollover = None }

abbrev pub is_asked_for_a : Datagram
is_asked_for_a = record { dir = In; local = 6969; host = client_host; remote = 2000; payload = asks_for_a.payload }

abbrev pub sends_hi : Datagram
sends_hi = record { dir = Out; local = 3000; host = client_host; remote = 2000; payload = brings_hi.payload }

abbrev pub is_told : Datagram
is_told = record { dir = In; local = 3000; host = client_host; remote = 2000; payload = acknowledges_hi.payload }

abbrev pub read_at_server : List Datagram
read_at_server = is_asked_for_a ∷ sends_hi ∷ is_told ∷ []

-- the two bytes as a write: WRQ "a", and ACK 0 for it
abbrev pub offers_a : Datagram
offers_a = record { dir = Out; local = 40000; host = server_host; remote = 69; payload = 0 ∷ 2 ∷ 97 ∷ 0 ∷ 111 ∷ 99 ∷ 116 ∷ 101 ∷ 116 ∷ 0 ∷ [] }

abbrev pub is_accepted : Datagram
is_accepted = record { dir = In; local = 40000; host = server_host; remote = 41000; payload = 0 ∷ 4 ∷ 0 ∷ 0 ∷ [] }

abbrev pub gives_hi : Datagram
gives_hi = record { dir = Out; local = 40000; host = server_host; remote = 41000; payload = 0 ∷ 3 ∷ 0 ∷ 1 ∷ 104 ∷ 105 ∷ [] }

abbrev pub hi_is_acknowledged : Datagram
hi_is_acknowledged = record { dir = In; local = 40000; host = server_host; remote = 41000; payload = 0 ∷ 4 ∷ 0 ∷ 1 ∷ [] }

abbrev pub one_block_write : List Datagram
one_block_write = offers_a ∷ is_accepted ∷ gives_hi ∷ hi_is_acknowledged ∷ []

-- the same write as its server sees it, which goes on from port 3000
abbrev pub is_offered_a : Datagram
is_offered_a = record { dir = In; local = 6969; host = client_host; remote = 2000; payload = offers_a.payload }

abbrev pub accepts_it : Datagram
accepts_it = record { dir = Out; local = 3000; host = client_host; remote = 2000; payload = is_accepted.payload }

abbrev pub gets_hi : Datagram
gets_hi = record { dir = In; local = 3000; host = client_host; remote = 2000; payload = gives_hi.payload }

abbrev pub has_hi : Datagram
has_hi = record { dir = Out; local = 3000; host = client_host; remote = 2000; payload = hi_is_acknowledged.payload }

abbrev pub write_at_server : List Datagram
write_at_server = is_offered_a ∷ accepts_it ∷ gets_hi ∷ has_hi ∷ []

-- a read with blocks of eight bytes: the letter case of mode and names is free, and a number may have leading zeros
abbrev pub text : List ℕ → List ℕ → List ℕ
text string rest = string ++ 0 ∷ rest

abbrev pub asks_for_eights : Datagram
asks_for_eights = record { dir = Out; local = 40000; host = server_host; remote = 69; payload = 0 ∷ 1 ∷ text (codes "a") (text (codes "Octet") (text (codes "BLKSIZE") (text (codes "08") []))) }

abbrev pub agrees_to_eights : Datagram
agrees_to_eights = record { dir = In; local = 40000; host = server_host; remote = 41000; payload = 0 ∷ 6 ∷ text (codes "blksize") (text (codes "8") []) }

abbrev pub takes_offer : Datagram
takes_offer = record { dir = Out; local = 40000; host = server_host; remote = 41000; payload = 0 ∷ 4 ∷ 0 ∷ 0 ∷ [] }

abbrev pub brings_eight : Datagram
brings_eight = record { dir = In; local = 40000; host = server_host; remote = 41000; payload = 0 ∷ 3 ∷ 0 ∷ 1 ∷ codes "01234567" }

abbrev pub acknowledges_eight : Datagram
acknowledges_eight = record { dir = Out; local = 40000; host = server_host; remote = 41000; payload = 0 ∷ 4 ∷ 0 ∷ 1 ∷ [] }

abbrev pub brings_two : Datagram
brings_two = record { dir = In; local = 40000; host = server_host; remote = 41000; payload = 0 ∷ 3 ∷ 0 ∷ 2 ∷ codes "89" }

abbrev pub acknowledges_two : Datagram
acknowledges_two = record { dir = Out; local = 40000; host = server_host; remote = 41000; payload = 0 ∷ 4 ∷ 0 ∷ 2 ∷ [] }

abbrev pub read_in_eights : List Datagram
read_in_eights = asks_for_eights ∷ agrees_to_eights ∷ takes_offer ∷ brings_eight ∷ acknowledges_eight ∷ brings_two ∷ acknowledges_two ∷ []
