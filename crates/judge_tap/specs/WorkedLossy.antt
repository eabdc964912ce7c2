-- A request and figures for worked cases.
use Rattle.std.specs.Prelude.{[], ◌∷◌, false, Some, None, codes}
use Rattle.std.specs.FinMap as map
use Rattle.tftp_packet.specs.{Num, RequestParts, Get, Octet}
use Rattle.law_tap.specs.{Figures}

-- a read where the client asks for blocks of 8 bytes (RFC 2348)
abbrev pub lowered_request : RequestParts
lowered_request = record { side = Get; name = codes "a"; mode = Octet; options = map.from_entries ((codes "blksize", Num 8) ∷ []) }

-- block 1 of 512 bytes, and an ACK of block 2
abbrev pub long_blocks : Figures
long_blocks = record { greatest = 65535; reach = 2; zero = false; below = Some 512; tail = None }
