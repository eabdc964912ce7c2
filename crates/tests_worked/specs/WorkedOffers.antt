-- Packets and requests that no lawful end sends, and OACKs with options that no server may agree to.
use Rattle.std.specs.Prelude.{List, [], ◌∷◌, codes}
use Rattle.tftp_packet.specs.{Pair}
use Rattle.tftp_packet.specs.Hosts.{Datagram}
use Rattle.tests_worked.specs.WorkedWindows.{request, request_for, oack, by_eight, asks, goes, comes}

-- an ACK with a byte too many, and a request in the mode "mail", which is obsolete (RFC 1350, section 5)
abbrev pub acknowledges_too_long : Datagram
acknowledges_too_long = goes (0 ∷ 4 ∷ 0 ∷ 1 ∷ 0 ∷ [])

abbrev pub asks_for_mail : Datagram
asks_for_mail = asks (request_for (codes "a") (codes "mail") 1 [])

-- a request for another file
abbrev pub asks_for_b : Datagram
asks_for_b = asks (request_for (codes "b") (codes "octet") 1 [])

-- an OACK without an option
abbrev pub agrees_to_none : Datagram
agrees_to_none = comes (oack [])

-- one with an option that was not asked for
abbrev pub agrees_unasked : Datagram
agrees_unasked = comes (oack by_eight)

-- one with "multicast", which is no point to point transfer, and one with an option that nobody knows; both asked for
abbrev pub by_multicast : List Pair
by_multicast = (codes "multicast", []) ∷ []

abbrev pub only_multicast_asked : List Datagram
only_multicast_asked = asks (request 1 by_multicast) ∷ []

abbrev pub agrees_to_multicast : Datagram
agrees_to_multicast = comes (oack by_multicast)

abbrev pub by_foo : List Pair
by_foo = (codes "foo", codes "1") ∷ []

abbrev pub only_foo_asked : List Datagram
only_foo_asked = asks (request 1 by_foo) ∷ []

abbrev pub agrees_to_foo : Datagram
agrees_to_foo = comes (oack by_foo)

-- one with blocks of 1024 bytes where 512 were asked for
abbrev pub only_512_asked : List Datagram
only_512_asked = asks (request 1 ((codes "blksize", codes "512") ∷ [])) ∷ []

abbrev pub agrees_to_1024 : Datagram
agrees_to_1024 = comes (oack ((codes "blksize", codes "1024") ∷ []))
