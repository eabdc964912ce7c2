-- What passes between the ends of the worked recordings.
use Rattle.std.specs.Prelude.{List, [], ◌∷◌, codes, false, None}
use Rattle.law_tap.specs.{PeerId, TapDatagram, TapSides}
use Rattle.audit_flows.specs.{Transfer}
use Rattle.audit_flows.specs.Transfers.{client, service, ack_of, data_of, read_of}

-- the transfer that datagram 0 opened
abbrev pub first_transfer : Transfer
first_transfer = record { number = 0; client = client; asked = service; writes = false; has_window = false }

abbrev pub at_client : PeerId
at_client = record { host = codes "192.0.2.7"; port = 40000 }

abbrev pub at_service : PeerId
at_service = record { host = codes "192.0.2.1"; port = 69 }

abbrev pub at_server : PeerId
at_server = record { host = codes "192.0.2.1"; port = 41000 }

abbrev pub at_stranger : PeerId
at_stranger = record { host = codes "192.0.2.9"; port = 41000 }

-- the stray passes too, with its own source
abbrev pub asked_twice_between : List TapDatagram
asked_twice_between =
    record { source = at_client; destination = at_server; payload = ack_of 1 }
    ∷ record { source = at_stranger; destination = at_client; payload = data_of 7 }
    ∷ record { source = at_server; destination = at_client; payload = data_of 1 }
    ∷ record { source = at_client; destination = at_service; payload = read_of (codes "f") }
    ∷ record { source = at_client; destination = at_service; payload = read_of (codes "f") }
    ∷ []

-- the server is who went on with it, and no side is the client's
abbrev pub asked_twice_sides : TapSides
asked_twice_sides = record { client = at_client; asked = at_service; server = at_server; rollover = None }
