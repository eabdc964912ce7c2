-- Which datagrams their hosts discarded (RFC 1122, sections 3.2.1.2 and 4.1.3.4).
use Rattle.std.specs.Prelude.{◌≡◌, ◌⊎◌, List, [], ◌∷◌, Option, Some, None}
use Rattle.std.specs.declared.net.ip_addr.IpAddr.{IpAddr}
use Rattle.net_udp.specs.declared.frames.checksum.Checksum.TheVariants.{Partial, Right, Wrong}
use Rattle.net_udp.specs.declared.frames.checksum.Checksum.{Checksum}
use Rattle.net_udp.specs.declared.recording.sent.Sent.{Sent}

-- one of the frames that told this tells that the host sent a datagram with such a checksum
abbrev pub HasSent : IpAddr → Checksum → List (Option Sent) → Type 0
HasSent host checksum [] = ⊥
HasSent host checksum (sent ∷ before) = (sent ≡ Some (record { host = host; checksum = checksum })) ⊎ HasSent host checksum before

-- A host discards a datagram whose checksum is wrong. It was wrong when it came, and not only when it was recorded, if what
-- the frames before it told says that its sender's host makes its checksums itself: it had sent a datagram with a right one,
-- and none with one that was left to its network card.
abbrev pub IsDiscarded : List (Option Sent) → Option Sent → Type 0
IsDiscarded before None = ⊥
IsDiscarded before (Some sent) = (sent.checksum ≡ Wrong) × HasSent sent.host Right before × (HasSent sent.host Partial before → ⊥)
