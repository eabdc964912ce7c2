-- What is held of the packets that came.
use Rattle.std.specs.Prelude.{◌≡◌, ◌≤◌, ℕ, List, length, take, Some}
use Rattle.std.specs.List.{slice_get}
use Rattle.net_udp.specs.Copies.Copies.{Packet}
use Rattle.net_udp.specs.declared.copies.recent.Held.{Held}

abbrev pub shown : Held → Packet
shown h = record { interface = h.interface; time = h.time; bytes = h.bytes.items }

-- the packets that are held, the last one first, and for how many bytes of the next one there is room
pub record RecentState : Type 0 where
  pub held : List Packet
  pub room : ℕ

-- Of the packets that came, the last one standing first, the first 16 are held; there is room for as many bytes as the
-- one before these had.
pub record StandsFor (recent : RecentState) (came : List Packet) : Type 0 where
  pub held : recent.held ≡ take 16 came
  pub room : (p : Packet) → slice_get came 16 ≡ Some p → length p.bytes ≤ recent.room
