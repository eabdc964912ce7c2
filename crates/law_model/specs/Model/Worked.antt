-- Three small transfers of a file "a" in octet mode, as their two ends see them.
use Rattle.std.specs.Prelude.{List, [], ◌∷◌, codes}
use Rattle.std.specs.FinMap as map
use Rattle.tftp_packet.specs.{OptionMap, Num, no_options, Get, Put, Octet, Client, Server}
use Rattle.law_model.specs.Model.Meanings.{Meaning}
use Rattle.law_model.specs.Model.Machines.{Deed, Sent, Took, Req, Oack, Data, Ack, History}
use Rattle.law_model.specs.Model.Runs.{Step}

abbrev pub client : Deed → Step
client deed = record { actor = Client; deed = deed }

abbrev pub server : Deed → Step
server deed = record { actor = Server; deed = deed }

-- a read of two bytes without options
abbrev pub two_bytes : Meaning
two_bytes = record { side = Get; name = codes "a"; mode = Octet; requested = no_options; agreed = no_options; file = codes "hi" }

abbrev pub two_bytes_view : History
two_bytes_view = Sent (Ack 1) ∷ Took (Data 1) ∷ Sent Req ∷ []

abbrev pub two_bytes_server_view : History
two_bytes_server_view = Took (Ack 1) ∷ Sent (Data 1) ∷ Took Req ∷ []

-- what both did, in one order that could be
abbrev pub two_bytes_steps : List Step
two_bytes_steps =
    server (Took (Ack 1))
    ∷ client (Sent (Ack 1))
    ∷ client (Took (Data 1))
    ∷ server (Sent (Data 1))
    ∷ server (Took Req)
    ∷ client (Sent Req)
    ∷ []

-- the same two bytes as a write
abbrev pub two_bytes_written : Meaning
two_bytes_written = record { side = Put; name = codes "a"; mode = Octet; requested = no_options; agreed = no_options; file = codes "hi" }

abbrev pub two_bytes_written_view : History
two_bytes_written_view = Took (Ack 1) ∷ Sent (Data 1) ∷ Took (Ack 0) ∷ Sent Req ∷ []

abbrev pub two_bytes_written_steps : List Step
two_bytes_written_steps =
    client (Took (Ack 1))
    ∷ server (Sent (Ack 1))
    ∷ server (Took (Data 1))
    ∷ client (Sent (Data 1))
    ∷ client (Took (Ack 0))
    ∷ server (Sent (Ack 0))
    ∷ server (Took Req)
    ∷ client (Sent Req)
    ∷ []

-- a read of ten bytes in blocks of eight, with DATA 1 lost once
abbrev pub eight_a_block : OptionMap
eight_a_block = map.from_entries ((codes "blksize", Num 8) ∷ [])

abbrev pub ten_bytes : Meaning
ten_bytes = record { side = Get; name = codes "a"; mode = Octet; requested = eight_a_block; agreed = eight_a_block; file = codes "0123456789" }

abbrev pub ten_bytes_view : History
ten_bytes_view = Sent (Ack 2) ∷ Took (Data 2) ∷ Sent (Ack 1) ∷ Took (Data 1) ∷ Sent (Ack 0) ∷ Took Oack ∷ Sent Req ∷ []

abbrev pub ten_bytes_steps : List Step
ten_bytes_steps =
    client (Sent (Ack 2))
    ∷ client (Took (Data 2))
    ∷ server (Sent (Data 2))
    ∷ server (Took (Ack 1))
    ∷ client (Sent (Ack 1))
    ∷ client (Took (Data 1))
    ∷ server (Sent (Data 1))
    ∷ server (Sent (Data 1))
    ∷ server (Took (Ack 0))
    ∷ client (Sent (Ack 0))
    ∷ client (Took Oack)
    ∷ server (Sent Oack)
    ∷ server (Took Req)
    ∷ client (Sent Req)
    ∷ []

-- no client of it asks once more after its ACK 0
abbrev pub asked_again_view : History
asked_again_view = Sent Req ∷ Sent (Ack 0) ∷ Took Oack ∷ Sent Req ∷ []

-- and no server of it agrees once more after its first block
abbrev pub agreed_late_view : History
agreed_late_view = Sent Oack ∷ Sent (Data 1) ∷ Took (Ack 0) ∷ Sent Oack ∷ Took Req ∷ []
