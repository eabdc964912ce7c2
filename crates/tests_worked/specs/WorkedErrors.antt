-- Captures of transfers in which an ERROR is sent (RFC 1350, section 7), and datagrams that no end sends after one.
use Rattle.std.specs.Prelude.{ℕ, List, [], ◌∷◌, ◌++◌, codes}
use Rattle.tftp_packet.specs.{terminated}
use Rattle.tftp_packet.specs.Hosts.{Datagram}
use Rattle.tests_worked.specs.Worked.{asks_for_a, brings_hi, acknowledges_hi}
use Rattle.tests_worked.specs.WorkedWindows.{request, oack, block, ack, by_eight, asks, goes, comes, is_asked}

-- the payload of an ERROR with a code of one byte (RFC 1350, section 5)
abbrev pub error : ℕ → List ℕ → List ℕ
error code text = 0 ∷ 5 ∷ 0 ∷ code ∷ terminated text

-- the server has no such file; it may not be read; the server stops
abbrev pub says_not_found : Datagram
says_not_found = comes (error 1 (codes "File not found"))

abbrev pub says_forbidden : Datagram
says_forbidden = comes (error 2 [])

abbrev pub stops : Datagram
stops = comes (error 0 [])

-- the client has no room
abbrev pub gives_up : Datagram
gives_up = goes (error 3 [])

abbrev pub read_refused : List Datagram
read_refused = asks_for_a ∷ says_not_found ∷ []

abbrev pub read_refused_twice : List Datagram
read_refused_twice = asks_for_a ∷ says_not_found ∷ says_not_found ∷ []

abbrev pub read_given_up : List Datagram
read_given_up = asks_for_a ∷ brings_hi ∷ gives_up ∷ []

-- the block comes again, and so does its answer
abbrev pub read_given_up_twice : List Datagram
read_given_up_twice = asks_for_a ∷ brings_hi ∷ gives_up ∷ brings_hi ∷ gives_up ∷ []

-- the server stops before the last ACK goes, and after it
abbrev pub stopped_at_the_end : List Datagram
stopped_at_the_end = asks_for_a ∷ brings_hi ∷ stops ∷ acknowledges_hi ∷ []

abbrev pub stopped_after_the_end : List Datagram
stopped_after_the_end = asks_for_a ∷ brings_hi ∷ acknowledges_hi ∷ stops ∷ []

-- a read in lock step, up to its first block
abbrev pub begun_in_eights : List Datagram
begun_in_eights = asks (request 1 by_eight) ∷ comes (oack by_eight) ∷ goes (ack 0) ∷ comes (block 1 (codes "01234567")) ∷ []

-- block 2 comes after the ERROR that was sent after it
abbrev pub block_after_error : List Datagram
block_after_error = begun_in_eights ++ goes (ack 1) ∷ stops ∷ comes (block 2 (codes "89")) ∷ []

-- the same with the ACK after the ERROR: the server can't have used it
abbrev pub before_late_answer : List Datagram
before_late_answer = begun_in_eights ++ stops ∷ goes (ack 1) ∷ []

abbrev pub late_answer : Datagram
late_answer = comes (block 2 (codes "89"))

-- a server that has not answered is known at the service port alone
abbrev pub only_offered : List Datagram
only_offered = is_asked (request 2 []) ∷ []

abbrev pub stops_unanswered : Datagram
stops_unanswered = is_asked (error 0 [])
