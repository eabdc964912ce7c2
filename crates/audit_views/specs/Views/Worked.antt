-- Captures of the worked recordings.
use Rattle.std.specs.Prelude.{ℕ, List, [], ◌∷◌, codes, false}
use Rattle.tftp_packet.specs.Hosts.{Datagram}
use Rattle.tftp_packet.specs.{In, Out}
use Rattle.audit_flows.specs.Lines.{bytes_of}
use Rattle.audit_flows.specs.{Address, Transfer}
use Rattle.audit_flows.specs.Transfers.{client, service, ack_of, data_of, read_of}
use Rattle.audit_flows.specs.Transfers.Worked.{error_of}

-- the transfer that datagram 0 opened
abbrev pub first_transfer : Transfer
first_transfer = record { number = 0; client = client; asked = service; writes = false; has_window = false }

-- a host by the bytes of its address
abbrev pub by_bytes : Address → List ℕ
by_bytes a = bytes_of a

-- the stray comes in, from its own host
abbrev pub asked_twice_at_client : List Datagram
asked_twice_at_client =
    record { dir = Out; local = 40000; host = 192 ∷ 0 ∷ 2 ∷ 1 ∷ []; remote = 41000; payload = ack_of 1 }
    ∷ record { dir = In; local = 40000; host = 192 ∷ 0 ∷ 2 ∷ 9 ∷ []; remote = 41000; payload = data_of 7 }
    ∷ record { dir = In; local = 40000; host = 192 ∷ 0 ∷ 2 ∷ 1 ∷ []; remote = 41000; payload = data_of 1 }
    ∷ record { dir = Out; local = 40000; host = 192 ∷ 0 ∷ 2 ∷ 1 ∷ []; remote = 69; payload = read_of (codes "f") }
    ∷ record { dir = Out; local = 40000; host = 192 ∷ 0 ∷ 2 ∷ 1 ∷ []; remote = 69; payload = read_of (codes "f") }
    ∷ []

-- what the server sent goes out, from two of its ports
abbrev pub asked_twice_at_server : List Datagram
asked_twice_at_server =
    record { dir = In; local = 41000; host = 192 ∷ 0 ∷ 2 ∷ 7 ∷ []; remote = 40000; payload = ack_of 1 }
    ∷ record { dir = Out; local = 41000; host = 192 ∷ 0 ∷ 2 ∷ 7 ∷ []; remote = 40000; payload = data_of 1 }
    ∷ record { dir = In; local = 69; host = 192 ∷ 0 ∷ 2 ∷ 7 ∷ []; remote = 40000; payload = read_of (codes "f") }
    ∷ record { dir = In; local = 69; host = 192 ∷ 0 ∷ 2 ∷ 7 ∷ []; remote = 40000; payload = read_of (codes "f") }
    ∷ []

-- of two clients the first one's transfer at its server: the third client's block comes in there, and its answer goes out
abbrev pub two_clients_at_server : List Datagram
two_clients_at_server =
    record { dir = Out; local = 41000; host = 192 ∷ 0 ∷ 2 ∷ 6 ∷ []; remote = 40000; payload = error_of 5 }
    ∷ record { dir = In; local = 41000; host = 192 ∷ 0 ∷ 2 ∷ 6 ∷ []; remote = 40000; payload = data_of 3 }
    ∷ record { dir = In; local = 41000; host = 192 ∷ 0 ∷ 2 ∷ 7 ∷ []; remote = 40000; payload = ack_of 1 }
    ∷ record { dir = Out; local = 41000; host = 192 ∷ 0 ∷ 2 ∷ 7 ∷ []; remote = 40000; payload = data_of 1 }
    ∷ record { dir = In; local = 69; host = 192 ∷ 0 ∷ 2 ∷ 7 ∷ []; remote = 40000; payload = read_of (codes "f") }
    ∷ []
