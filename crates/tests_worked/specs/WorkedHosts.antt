-- Captures of the read of two bytes in which several hosts have the same ports.
use Rattle.std.specs.Prelude.{ℕ, List, [], ◌∷◌, codes}
use Rattle.tftp_packet.specs.Hosts.{Datagram}
use Rattle.tftp_packet.specs.{In, Out}
use Rattle.tests_worked.specs.Worked.{asks_for_a, brings_hi, acknowledges_hi, answers_stray, is_asked_for_a}

-- a host that is neither of the two
abbrev pub third_host : List ℕ
third_host = codes "10.0.0.9"

-- block 1 from there, from the port that the server has, and ERROR 5 in answer
abbrev pub comes_from_third_host : Datagram
comes_from_third_host = record { dir = In; local = 40000; host = third_host; remote = 41000; payload = brings_hi.payload }

abbrev pub answers_third_host : Datagram
answers_third_host = record { dir = Out; local = 40000; host = third_host; remote = 41000; payload = answers_stray.payload }

abbrev pub read_with_a_third_host : List Datagram
read_with_a_third_host = asks_for_a ∷ brings_hi ∷ comes_from_third_host ∷ answers_third_host ∷ acknowledges_hi ∷ []

-- an ACK to there
abbrev pub after_third_host : List Datagram
after_third_host = asks_for_a ∷ brings_hi ∷ comes_from_third_host ∷ []

abbrev pub acknowledges_third_host : Datagram
acknowledges_third_host = record { dir = Out; local = 40000; host = third_host; remote = 41000; payload = acknowledges_hi.payload }

-- the server answers from there, which is another host than the one asked
abbrev pub read_from_third_host : List Datagram
read_from_third_host = asks_for_a ∷ comes_from_third_host ∷ acknowledges_third_host ∷ []

abbrev pub answered_from_third_host : List Datagram
answered_from_third_host = asks_for_a ∷ comes_from_third_host ∷ []

-- the request once more, to there, and at a server from there
abbrev pub asks_third_host : Datagram
asks_third_host = record { dir = Out; local = 40000; host = third_host; remote = 69; payload = asks_for_a.payload }

abbrev pub third_host_asks : Datagram
third_host_asks = record { dir = In; local = 6969; host = third_host; remote = 2000; payload = asks_for_a.payload }

abbrev pub only_is_asked : List Datagram
only_is_asked = is_asked_for_a ∷ []
