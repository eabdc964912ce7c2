-- A recording in which an address is none, a transfer that no datagram opened, a port that is known by a request alone, a server
-- with two addresses, and a client that sends elsewhere. Lists have the newest first.
use Rattle.std.specs.Prelude.{List, [], ◌∷◌, codes, false}
use Rattle.audit_flows.specs.Lines.{Recorded}
use Rattle.audit_flows.specs.{Endpoint, Transfer, V4}
use Rattle.audit_flows.specs.Transfers.{ack_of, client, data_of, service}
use Rattle.audit_flows.specs.Transfers.Worked.{passes, requests, server, stranger}

-- ---- names

-- Another endpoint than the client's, with the client's name: its address has a byte too many, and so is none.
abbrev pub namesake : Endpoint
namesake = record { address = V4 (192 ∷ 0 ∷ 2 ∷ 7 ∷ 0 ∷ []); port = 40000 }

-- a read
abbrev pub before_namesake : List Recorded
before_namesake = passes 1 server client (data_of 1) ∷ requests 0 client service (codes "f") ∷ []

-- a block that strays to the client from there
abbrev pub from_namesake : Recorded
from_namesake = passes 2 namesake client (data_of 7)

-- ---- openings

-- a request of the client
abbrev pub one_request : Recorded
one_request = requests 0 client service (codes "f")

-- It has the number of the transfer that the request opened, but asks another host.
abbrev pub not_opened : Transfer
not_opened = record { number = 0; client = client; asked = record { address = stranger.address; port = 69 }; writes = false; has_window = false }

-- ---- ports

-- A port that is neither 69 nor named, so that a request goes there by what it says alone.
abbrev pub learned : Endpoint
learned = record { address = service.address; port = 6969 }

abbrev pub asked_at_learned : Transfer
asked_at_learned = record { number = 0; client = client; asked = learned; writes = false; has_window = false }

-- A client asks there, and again once that endpoint has asked for a file itself, and so is a client: what comes to a client is
-- a request at a service port only. It is answered from another port.
abbrev pub before_going_on : List Recorded
before_going_on =
    passes 3 server client (data_of 1)
    ∷ requests 2 client learned (codes "f")
    ∷ requests 1 learned (record { address = stranger.address; port = 69 }) (codes "g")
    ∷ requests 0 client learned (codes "f")
    ∷ []

abbrev pub to_who_answered : Recorded
to_who_answered = passes 4 client server (ack_of 1)

-- ---- servers

-- A server with two addresses: the block comes from the one, and the ACK goes to the other, to the same port.
abbrev pub from_one_address : List Recorded
from_one_address = passes 1 stranger client (data_of 1) ∷ requests 0 client service (codes "f") ∷ []

abbrev pub to_the_other : Recorded
to_the_other = passes 2 client server (ack_of 1)

-- The block comes from the server, and the ACK goes to a stranger.
abbrev pub to_a_stranger : Recorded
to_a_stranger = passes 2 client stranger (ack_of 1)

-- ---- accusations

-- A client asks for a file, and for another before anybody has answered; it gets a block of that, and asks again where this came from.
abbrev pub asked_before : List Recorded
asked_before =
    requests 3 client server (codes "f")
    ∷ passes 2 server client (data_of 1)
    ∷ requests 1 client service (codes "f")
    ∷ requests 0 client service (codes "g")
    ∷ []
