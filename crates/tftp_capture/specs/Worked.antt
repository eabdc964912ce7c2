-- A read of the file `a`, which holds `hi`, as it was recorded at the client: in version 1, the same in version 2, and
-- with the hosts named.
use Rattle.std.specs.Prelude.{ℕ, List, [], ◌∷◌, ◌++◌, codes, None}
use Rattle.tftp_packet.specs.Hosts.{no_host}
use Rattle.tftp_packet.specs.{In, Out}
use Rattle.tftp_packet.specs.{Client}
use Rattle.tftp_capture.specs.CaptureText.{Datagram, Header, Numbered}
use Rattle.tftp_capture.specs.Heads.{HeadState}
use Rattle.tftp_capture.specs.declared.version.Version.TheVariants.{One}

abbrev pub worked_header : Header
worked_header = record { named = Client; service = 69; rollover = None }

abbrev pub worked_datagrams : List Datagram
worked_datagrams =
    record { dir = Out; local = 40000; host = no_host; remote = 69; payload = 0 ∷ 1 ∷ 97 ∷ 0 ∷ (codes "octet" ++ 0 ∷ []) }
    ∷ record { dir = In; local = 40000; host = no_host; remote = 41000; payload = 0 ∷ 3 ∷ 0 ∷ 1 ∷ codes "hi" }
    ∷ record { dir = Out; local = 40000; host = no_host; remote = 41000; payload = 0 ∷ 4 ∷ 0 ∷ 1 ∷ [] }
    ∷ []

abbrev pub line : List ℕ → List ℕ
line text = text ++ 10 ∷ []

abbrev pub worked_text : List ℕ
worked_text =
    line (codes "tftp-capture 1") ++ line (codes "end client") ++ line (codes "service 69") ++ line (codes "out 40000 69 000161006f6374657400") ++ line (codes "in 40000 41000 000300016869")
    ++ line (codes "out 40000 41000 00040001") ++ line (codes "total 3")

-- the same text in version 2
abbrev pub worked_text_in_two : List ℕ
worked_text_in_two =
    line (codes "tftp-capture 2") ++ line (codes "end client") ++ line (codes "service 69") ++ line (codes "out 40000 - 69 000161006f6374657400") ++ line (codes "in 40000 - 41000 000300016869")
    ++ line (codes "out 40000 - 41000 00040001") ++ line (codes "total 3")

-- a server that answers from another host
abbrev pub named_text : List ℕ
named_text =
    line (codes "tftp-capture 2") ++ line (codes "# by name") ++ line (codes "end client") ++ line (codes "service 69") ++ line (codes "out 40000 tftp.example 69 000161006f6374657400") ++ line (codes "in 40000 192.0.2.7 41000 000300016869")
    ++ line (codes "out 40000 192.0.2.7 41000 00040001") ++ line (codes "total 3")

abbrev pub named_datagrams : List Numbered
named_datagrams =
    (5, record { dir = Out; local = 40000; host = codes "tftp.example"; remote = 69; payload = 0 ∷ 1 ∷ 97 ∷ 0 ∷ (codes "octet" ++ 0 ∷ []) })
    ∷ (6, record { dir = In; local = 40000; host = codes "192.0.2.7"; remote = 41000; payload = 0 ∷ 3 ∷ 0 ∷ 1 ∷ codes "hi" })
    ∷ (7, record { dir = Out; local = 40000; host = codes "192.0.2.7"; remote = 41000; payload = 0 ∷ 4 ∷ 0 ∷ 1 ∷ [] })
    ∷ []

-- the same datagrams, and their canonical text
abbrev pub host_datagrams : List Datagram
host_datagrams =
    record { dir = Out; local = 40000; host = codes "tftp.example"; remote = 69; payload = 0 ∷ 1 ∷ 97 ∷ 0 ∷ (codes "octet" ++ 0 ∷ []) }
    ∷ record { dir = In; local = 40000; host = codes "192.0.2.7"; remote = 41000; payload = 0 ∷ 3 ∷ 0 ∷ 1 ∷ codes "hi" }
    ∷ record { dir = Out; local = 40000; host = codes "192.0.2.7"; remote = 41000; payload = 0 ∷ 4 ∷ 0 ∷ 1 ∷ [] }
    ∷ []

abbrev pub host_text : List ℕ
host_text =
    line (codes "tftp-capture 2") ++ line (codes "end client") ++ line (codes "service 69") ++ line (codes "out 40000 tftp.example 69 000161006f6374657400") ++ line (codes "in 40000 192.0.2.7 41000 000300016869")
    ++ line (codes "out 40000 192.0.2.7 41000 00040001") ++ line (codes "total 3")

-- what is known of the line of a block, and as much of such a line as has come where a read ends: seven of its twelve digits
abbrev pub block_head : HeadState
block_head = record { bytes = codes "in 40000 41000 "; line = 27; version = One; dir = In; local = 40000; host = no_host; remote = 41000 }

abbrev pub block_line : List ℕ
block_line = codes "in 40000 41000 000300016869"

abbrev pub cut_line : List ℕ
cut_line = codes "in 40000 41000 0003000"
