-- How a written head of a datagram's line is held.
use Rattle.std.specs.Prelude.{◌≡◌, ℕ, ◌≤◌, List, take, Option}
use Rattle.tftp_packet.specs.{Dir}
use Rattle.tftp_capture.specs.Written.{head_naming}
use Rattle.tftp_capture.specs.declared.spelled_head.SpelledHead.TheInside.{Inside}

-- the bytes of a line before its digits, and the fields that they spell
pub record SpelledHead : Type 0 where
  pub bytes : List ℕ
  pub dir : Dir
  pub local : ℕ
  pub host : Option (List ℕ)
  pub remote : ℕ

abbrev pub spelled_head : Inside → SpelledHead
spelled_head h = record { bytes = take h.len h.bytes; dir = h.dir; local = h.local; host = h.host; remote = h.remote }

pub record Spells (h : Inside) : Type 0 where
  pub sized : h.len ≤ 62
  pub spelled : take h.len h.bytes ≡ head_naming h.host h.dir h.local h.remote
