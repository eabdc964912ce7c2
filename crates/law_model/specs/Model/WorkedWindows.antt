-- Transfers with agreed options, as their two ends see them: a read with a window of four blocks that came out of
-- order, a write in lock step with a block repeated, and a write with a window sent twice.
use Rattle.std.specs.Prelude.{List, [], ◌∷◌, codes}
use Rattle.std.specs.FinMap as map
use Rattle.tftp_packet.specs.{OptionMap, Num, Get, Put, Octet}
use Rattle.law_model.specs.Model.Meanings.{Meaning}
use Rattle.law_model.specs.Model.Machines.{Sent, Took, Req, Oack, Data, Ack, History}
use Rattle.law_model.specs.Model.Runs.{Step}
use Rattle.law_model.specs.Model.Worked.{client, server, eight_a_block}

abbrev pub eight_by_four : OptionMap
eight_by_four = map.from_entries ((codes "blksize", Num 8) ∷ (codes "windowsize", Num 4) ∷ [])

-- a read of 43 bytes, in six blocks
abbrev pub six_blocks : Meaning
six_blocks = record { side = Get; name = codes "a"; mode = Octet; requested = eight_by_four; agreed = eight_by_four; file = codes "1111111122222222333333334444444455555555666" }

-- block 3 comes after block 4, which the server sends once and the client takes twice
abbrev pub six_blocks_steps : List Step
six_blocks_steps =
    server (Took (Ack 6))
    ∷ client (Sent (Ack 6))
    ∷ client (Took (Data 6))
    ∷ client (Took (Data 5))
    ∷ server (Sent (Data 6))
    ∷ server (Sent (Data 5))
    ∷ server (Took (Ack 2))
    ∷ client (Took (Data 4))
    ∷ client (Took (Data 3))
    ∷ client (Sent (Ack 2))
    ∷ client (Took (Data 4))
    ∷ client (Took (Data 2))
    ∷ client (Took (Data 1))
    ∷ server (Sent (Data 4))
    ∷ server (Sent (Data 3))
    ∷ server (Sent (Data 2))
    ∷ server (Sent (Data 1))
    ∷ server (Took (Ack 0))
    ∷ client (Sent (Ack 0))
    ∷ client (Took Oack)
    ∷ server (Sent Oack)
    ∷ server (Took Req)
    ∷ client (Sent Req)
    ∷ []

abbrev pub six_blocks_view : History
six_blocks_view =
    Sent (Ack 6)
    ∷ Took (Data 6)
    ∷ Took (Data 5)
    ∷ Took (Data 4)
    ∷ Took (Data 3)
    ∷ Sent (Ack 2)
    ∷ Took (Data 4)
    ∷ Took (Data 2)
    ∷ Took (Data 1)
    ∷ Sent (Ack 0)
    ∷ Took Oack
    ∷ Sent Req
    ∷ []

abbrev pub six_blocks_server_view : History
six_blocks_server_view =
    Took (Ack 6)
    ∷ Sent (Data 6)
    ∷ Sent (Data 5)
    ∷ Took (Ack 2)
    ∷ Sent (Data 4)
    ∷ Sent (Data 3)
    ∷ Sent (Data 2)
    ∷ Sent (Data 1)
    ∷ Took (Ack 0)
    ∷ Sent Oack
    ∷ Took Req
    ∷ []

-- a write of ten bytes in lock step: DATA 1 goes out again though its ACK has come
abbrev pub block_repeated : Meaning
block_repeated = record { side = Put; name = codes "a"; mode = Octet; requested = eight_a_block; agreed = eight_a_block; file = codes "1111111122" }

abbrev pub block_repeated_steps : List Step
block_repeated_steps =
    client (Took (Ack 2))
    ∷ server (Sent (Ack 2))
    ∷ server (Took (Data 2))
    ∷ client (Sent (Data 2))
    ∷ client (Sent (Data 1))
    ∷ client (Took (Ack 1))
    ∷ server (Sent (Ack 1))
    ∷ server (Took (Data 1))
    ∷ client (Sent (Data 1))
    ∷ client (Took Oack)
    ∷ server (Sent Oack)
    ∷ server (Took Req)
    ∷ client (Sent Req)
    ∷ []

abbrev pub block_repeated_view : History
block_repeated_view = Took (Ack 2) ∷ Sent (Data 2) ∷ Sent (Data 1) ∷ Took (Ack 1) ∷ Sent (Data 1) ∷ Took Oack ∷ Sent Req ∷ []

-- no client of it sends DATA 1 once more after DATA 2
abbrev pub gone_back_view : History
gone_back_view = Sent (Data 1) ∷ Sent (Data 2) ∷ Took (Ack 1) ∷ Sent (Data 1) ∷ Took Oack ∷ Sent Req ∷ []

-- a write of ten bytes with a window of four: ACK 0 says that DATA 1 was lost, and both blocks go out again
abbrev pub window_repeated : Meaning
window_repeated = record { side = Put; name = codes "a"; mode = Octet; requested = eight_by_four; agreed = eight_by_four; file = codes "1111111122" }

abbrev pub window_repeated_steps : List Step
window_repeated_steps =
    client (Took (Ack 2))
    ∷ server (Sent (Ack 2))
    ∷ server (Took (Data 1))
    ∷ client (Sent (Data 2))
    ∷ client (Sent (Data 1))
    ∷ client (Took (Ack 0))
    ∷ server (Sent (Ack 0))
    ∷ server (Took (Data 2))
    ∷ client (Sent (Data 2))
    ∷ client (Sent (Data 1))
    ∷ client (Took Oack)
    ∷ server (Sent Oack)
    ∷ server (Took Req)
    ∷ client (Sent Req)
    ∷ []

abbrev pub window_repeated_view : History
window_repeated_view = Took (Ack 2) ∷ Sent (Data 2) ∷ Sent (Data 1) ∷ Took (Ack 0) ∷ Sent (Data 2) ∷ Sent (Data 1) ∷ Took Oack ∷ Sent Req ∷ []
