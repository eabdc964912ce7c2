-- Transfers that an ERROR ends, as their two ends see them (RFC 1350, section 7).
use Rattle.std.specs.Prelude.{List, [], ◌∷◌, codes}
use Rattle.law_model.specs.Model.Machines.{MachinePacket, Sent, Took, Req, Oack, Data, Ack, Error, History}
use Rattle.law_model.specs.Model.Runs.{Step}
use Rattle.law_model.specs.Model.Worked.{client, server}

abbrev pub not_found : MachinePacket
not_found = Error 1 (codes "File not found")

abbrev pub disk_full : MachinePacket
disk_full = Error 3 []

abbrev pub stopped_short : MachinePacket
stopped_short = Error 0 []

-- the server of a read has no such file
abbrev pub read_refused_steps : List Step
read_refused_steps = client (Took not_found) ∷ server (Sent not_found) ∷ server (Took Req) ∷ client (Sent Req) ∷ []

abbrev pub read_refused_view : History
read_refused_view = Took not_found ∷ Sent Req ∷ []

abbrev pub read_refused_server_view : History
read_refused_server_view = Sent not_found ∷ Took Req ∷ []

-- the client of a read has no room for the block, and says so again where the block comes again
abbrev pub read_given_up_steps : List Step
read_given_up_steps =
    client (Sent disk_full)
    ∷ client (Took (Data 1))
    ∷ server (Sent (Data 1))
    ∷ client (Sent disk_full)
    ∷ client (Took (Data 1))
    ∷ server (Sent (Data 1))
    ∷ server (Took Req)
    ∷ client (Sent Req)
    ∷ []

abbrev pub given_up_view : History
given_up_view = Sent disk_full ∷ Took (Data 1) ∷ Sent Req ∷ []

abbrev pub read_given_up_view : History
read_given_up_view = Sent disk_full ∷ Took (Data 1) ∷ given_up_view

-- the server ends a read whose blocks it has all sent: its ERROR comes before the ACK goes
abbrev pub stopped_at_the_end_steps : List Step
stopped_at_the_end_steps =
    client (Sent (Ack 1))
    ∷ client (Took stopped_short)
    ∷ client (Took (Data 1))
    ∷ server (Sent stopped_short)
    ∷ server (Sent (Data 1))
    ∷ server (Took Req)
    ∷ client (Sent Req)
    ∷ []

abbrev pub stopped_at_the_end_view : History
stopped_at_the_end_view = Sent (Ack 1) ∷ Took stopped_short ∷ Took (Data 1) ∷ Sent Req ∷ []

-- a read of two blocks in lock step, of which the first has come
abbrev pub one_block_view : History
one_block_view = Took (Data 1) ∷ Sent (Ack 0) ∷ Took Oack ∷ Sent Req ∷ []

-- the second block comes after the ERROR that was sent after it
abbrev pub block_after_error_steps : List Step
block_after_error_steps =
    client (Took (Data 2))
    ∷ client (Took stopped_short)
    ∷ server (Sent stopped_short)
    ∷ server (Sent (Data 2))
    ∷ server (Took (Ack 1))
    ∷ client (Sent (Ack 1))
    ∷ client (Took (Data 1))
    ∷ server (Sent (Data 1))
    ∷ server (Took (Ack 0))
    ∷ client (Sent (Ack 0))
    ∷ client (Took Oack)
    ∷ server (Sent Oack)
    ∷ server (Took Req)
    ∷ client (Sent Req)
    ∷ []

abbrev pub block_after_error_view : History
block_after_error_view = Took (Data 2) ∷ Took stopped_short ∷ Sent (Ack 1) ∷ one_block_view

-- the same with the ACK after the ERROR: no server sends block 2 for it
abbrev pub answer_to_late_ack_view : History
answer_to_late_ack_view = Took (Data 2) ∷ Sent (Ack 1) ∷ Took stopped_short ∷ one_block_view
