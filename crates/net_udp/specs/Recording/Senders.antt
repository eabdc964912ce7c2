-- What is known of who makes the checksums of hosts.
use Rattle.std.specs.Prelude.{◌≡◌, ◌⊎◌, Bool, true, false, List, Option, Some, None}
use Rattle.std.specs.Map.{lookup}
use Rattle.std.specs.Ordering.{is_eq}
use Rattle.std.specs.declared.net.ip_addr.IpAddr.{IpAddr}
use Rattle.net_udp.specs.declared.fragments.outcome.Outcome.{Outcome}
use Rattle.net_udp.specs.Fragments.Key.{address_cmp}
use Rattle.net_udp.specs.declared.frames.checksum.Checksum.TheVariants.{Absent, Partial, Right, Wrong}
use Rattle.net_udp.specs.declared.frames.checksum.Checksum.{Checksum}
use Rattle.net_pcap.specs.{FrameParts}
use Rattle.net_udp.specs.Recording.Checked.{IsSentOf}
use Rattle.net_udp.specs.Recording.Discards.{HasSent}
use Rattle.net_udp.specs.declared.recording.likeness.Likeness.{Likeness}
use Rattle.net_udp.specs.declared.recording.senders.Maker.{Maker}
use Rattle.net_udp.specs.declared.recording.senders.Maker.TheVariants.{Host, Card}
use Rattle.net_udp.specs.declared.recording.sent.Sent.{Sent}

-- who makes them, of the hosts of which that is known
abbrev pub Makers : Type 0
Makers = List (IpAddr × Maker)

-- no part of the two addresses tells them apart
abbrev pub same_host : IpAddr → IpAddr → Bool
same_host host other = is_eq (address_cmp host other)

abbrev pub maker_of : IpAddr → Makers → Option Maker
maker_of host makers = lookup (same_host host) makers

-- of a host that is known, by what frames told
abbrev pub IsKnown : Option Maker → IpAddr → List (Option Sent) → Type 0
IsKnown None host before = (HasSent host Right before → ⊥) × (HasSent host Partial before → ⊥)
IsKnown (Some Host) host before = HasSent host Right before × (HasSent host Partial before → ⊥)
IsKnown (Some Card) host before = HasSent host Partial before

-- of each host that is known which the frames told
abbrev pub Knows : Makers → List (Option Sent) → Type 0
Knows makers before = (host : IpAddr) → IsKnown (maker_of host makers) host before

-- a checksum that was right or left tells of its sender's host what was not known
abbrev pub IsUnknown : List (Option Sent) → Option Sent → Type 0
IsUnknown before None = ⊥
IsUnknown before (Some sent) = ((sent.checksum ≡ Right) ⊎ (sent.checksum ≡ Partial)) × (HasSent sent.host Right before → ⊥) × (HasSent sent.host Partial before → ⊥)

-- memory is wanted to know the host that sent the datagram of a frame
abbrev pub WantsToKnow : List (Option Sent) → FrameParts → Type 0
WantsToKnow before frame = (likeness : Likeness) × (outcome : Option Outcome) × (sent : Option Sent) × IsSentOf frame likeness outcome sent × IsUnknown before sent

-- ---- by who makes the checksums of its sender's host

abbrev pub discarded_by : Checksum → Option Maker → Bool
discarded_by Wrong (Some Host) = true
discarded_by Wrong (Some Card) = false
discarded_by Wrong None = false
discarded_by Absent maker = false
discarded_by Right maker = false
discarded_by Partial maker = false

-- what was not known of it
abbrev pub learned : Checksum → Option Maker → Option Maker
learned Right None = Some Host
learned Right (Some maker) = None
learned Partial None = Some Card
learned Partial (Some Host) = Some Card
learned Partial (Some Card) = None
learned Absent maker = None
learned Wrong maker = None
