-- Which contents of an IP packet are a UDP datagram (RFC 768), and why others are none.
use Rattle.std.specs.Prelude.{◌≡◌, ◌≢◌, ◌⊎◌, ◌-◌, ◌<◌, ◌≤◌, ℕ, true, false, List, length, take, drop, None, Result, MatchResult, slice_index}
use Rattle.net_udp.specs.Frames.Number.{pair}
use Rattle.net_udp.specs.Frames.Extension.{Reached, ReachesOver, is_hidden_in}
use Rattle.net_udp.specs.Frames.OverUdp.{is_over_udp}
use Rattle.net_udp.specs.declared.frames.packet.UdpDatagram.{UdpDatagram}
use Rattle.net_udp.specs.declared.frames.fault.UdpFault.{UdpFault}
use Rattle.net_udp.specs.declared.frames.fault.UdpFault.TheVariants.{Protocol, Extension, Header, Length, Port}

-- the ports and the payload
pub record Udp : Type 0 where
  pub source_port : ℕ
  pub target_port : ℕ
  pub payload : List ℕ

abbrev pub datagram : UdpDatagram → Udp
datagram d = record { source_port = d.source_port; target_port = d.target_port; payload = d.payload.now }

-- the content, which begins with a header of this number, has these bytes of UDP, which are no tunnel's
abbrev pub HasUdp : ℕ → List ℕ → List ℕ → Type 0
HasUdp protocol content bytes = ReachesOver protocol content (record { protocol = 17; fragment = None; content = bytes }) × (is_over_udp bytes ≡ false)

-- the length counts the header of 8 bytes in; what follows is not of the datagram
abbrev pub IsSized : List ℕ → Type 0
IsSized bytes = (8 ≤ pair bytes 4) × (pair bytes 4 ≤ length bytes)

-- the ports, 0 none of them, and the payload
abbrev pub SpellsUdp : ℕ → List ℕ → Udp → Type 0
SpellsUdp protocol content udp =
    (bytes : List ℕ) × HasUdp protocol content bytes × (8 ≤ length bytes) × IsSized bytes × (pair bytes 0 ≢ 0) × (pair bytes 2 ≢ 0)
    × (udp ≡ record { source_port = pair bytes 0; target_port = pair bytes 2; payload = take (pair bytes 4 - 8) (drop 8 bytes) })

-- The ports fill 16 bits and are not 0; so do the length and the header of 8 bytes that it counts in.
pub record IsSound (d : Udp) : Type 0 where
  pub source_port : (1 ≤ d.source_port) × (d.source_port ≤ 65535)
  pub target_port : (1 ≤ d.target_port) × (d.target_port ≤ 65535)
  pub bytes : (k : ℕ) → slice_index d.payload k < 256
  pub fits : length d.payload ≤ 65527

-- What the content carries is not read: nothing is reached, or it is a fragment or a tunnel.
abbrev pub IsHidden : ℕ → List ℕ → Type 0
IsHidden protocol content = (r : Reached) → ReachesOver protocol content r → is_hidden_in r ≡ true

-- what each fault says of a content
abbrev pub HoldsUdp : UdpFault → ℕ → List ℕ → Type 0
HoldsUdp Protocol protocol content = ((bytes : List ℕ) → HasUdp protocol content bytes → ⊥) × (IsHidden protocol content → ⊥)
HoldsUdp Extension protocol content = IsHidden protocol content
HoldsUdp Header protocol content = (bytes : List ℕ) × HasUdp protocol content bytes × (length bytes < 8)
HoldsUdp Length protocol content = (bytes : List ℕ) × HasUdp protocol content bytes × (8 ≤ length bytes) × ((pair bytes 4 < 8) ⊎ (length bytes < pair bytes 4))
HoldsUdp Port protocol content = (bytes : List ℕ) × HasUdp protocol content bytes × (8 ≤ length bytes) × IsSized bytes × ((pair bytes 0 ≡ 0) ⊎ (pair bytes 2 ≡ 0))

-- the datagram that the content is, or the fault
abbrev pub JudgesUdp : ℕ → List ℕ → Result UdpDatagram UdpFault → Type 0
JudgesUdp protocol content result = MatchResult result (λ d. SpellsUdp protocol content (datagram d)) (λ f. HoldsUdp f protocol content)
