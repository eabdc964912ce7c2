-- Captures of the read of two bytes in which something comes astray: at its server, and before the server has answered;
-- and what does not answer a stray.
use Rattle.std.specs.Prelude.{List, [], ◌∷◌}
use Rattle.tftp_packet.specs.Hosts.{Datagram}
use Rattle.tftp_packet.specs.{In, Out}
use Rattle.tests_worked.specs.Worked.{server_host, client_host, asks_for_a, brings_hi, comes_astray, answers_stray, is_asked_for_a, sends_hi, is_told}
use Rattle.tests_worked.specs.WorkedErrors.{error}
use Rattle.tests_worked.specs.WorkedRules.{comes_from_elsewhere, acknowledges_stray}

-- at the server, once it has answered: an ACK from another port of the client's host, and ERROR 5 in answer
abbrev pub strays_to_server : Datagram
strays_to_server = record { dir = In; local = 3000; host = client_host; remote = 2001; payload = is_told.payload }

abbrev pub server_answers_stray : Datagram
server_answers_stray = record { dir = Out; local = 3000; host = client_host; remote = 2001; payload = answers_stray.payload }

abbrev pub read_with_a_stray_at_server : List Datagram
read_with_a_stray_at_server = is_asked_for_a ∷ sends_hi ∷ strays_to_server ∷ server_answers_stray ∷ is_told ∷ []

-- ERROR 4, "Illegal TFTP operation", in answer to a stray, by the client and by the server
abbrev pub answers_by_error_4 : Datagram
answers_by_error_4 = record { dir = Out; local = 40000; host = server_host; remote = 42000; payload = error 4 [] }

abbrev pub after_a_stray_at_server : List Datagram
after_a_stray_at_server = is_asked_for_a ∷ sends_hi ∷ strays_to_server ∷ []

abbrev pub server_answers_by_error_4 : Datagram
server_answers_by_error_4 = record { dir = Out; local = 3000; host = client_host; remote = 2001; payload = error 4 [] }

-- Two ports answer the request. What comes first, from port 42000, is the server's, and the other block is the stray.
abbrev pub read_from_first_port : List Datagram
read_from_first_port = asks_for_a ∷ comes_from_elsewhere ∷ brings_hi ∷ acknowledges_stray ∷ []

-- at the server before it has answered: something at the service port from another port than the client's
abbrev pub comes_to_service : Datagram
comes_to_service = record { dir = In; local = 6969; host = client_host; remote = 2001; payload = comes_astray.payload }
