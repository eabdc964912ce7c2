-- Which packets are copies. A host that records at several of its interfaces records a packet at each that it passes. What
-- comes twice at one interface was sent twice, or the network repeated it.
use Rattle.std.specs.Prelude.{◌≡◌, ◌≢◌, ◌+◌, ◌≤◌, ℕ, List, take, Option, Some, None}
use Rattle.std.specs.List.{Any}
use Rattle.net_udp.specs.declared.copies.interface.Interface.{Interface}

-- a packet as it was recorded: where; when, in nanoseconds, where the recording says so; and its bytes from the IP header on
pub record Packet : Type 0 where
  pub interface : Interface
  pub time : Option ℕ
  pub bytes : List ℕ

-- both times are known, and no more than 1 ms apart
abbrev pub AreNear : Option ℕ → Option ℕ → Type 0
AreNear (Some a) (Some b) = (a ≤ b + 1000000) × (b ≤ a + 1000000)
AreNear (Some a) None = ⊥
AreNear None other = ⊥

-- the same bytes, at nearly the same time, at two interfaces
abbrev pub AreOne : Packet → Packet → Type 0
AreOne p q = (p.interface ≢ q.interface) × (p.bytes ≡ q.bytes) × AreNear p.time q.time

-- it is one with a packet among the 16 before it, of which the last one stands first
abbrev pub IsCopy : List Packet → Packet → Type 0
IsCopy before p = Any (AreOne p) (take 16 before)
