-- The server's blocks 65535 and 65536, whose number is 0 where 0 comes after 65535, and the client that took the first alone. The
-- newest first.
use Rattle.std.specs.Prelude.{List, [], ◌∷◌}
use Rattle.tftp_packet.specs.Hosts.{Datagram}
use Rattle.tftp_packet.specs.{In, Out}
use Rattle.judge_pair.specs.Counts.Worked.{worked_datagram}

abbrev pub block_65535 : Datagram
block_65535 = worked_datagram Out (0 ∷ 3 ∷ 255 ∷ 255 ∷ 104 ∷ [])

abbrev pub by_its_number : Datagram
by_its_number = worked_datagram Out (0 ∷ 3 ∷ 0 ∷ 0 ∷ 104 ∷ [])

abbrev pub block_65536 : Datagram
block_65536 = worked_datagram Out (0 ∷ 3 ∷ 256 ∷ 0 ∷ 104 ∷ [])

abbrev pub sent_past_the_round : List Datagram
sent_past_the_round = block_65536 ∷ block_65535 ∷ []

abbrev pub taken_before_it : List Datagram
taken_before_it = worked_datagram In (0 ∷ 3 ∷ 255 ∷ 255 ∷ 104 ∷ []) ∷ []
