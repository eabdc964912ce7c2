-- Why the datagram behind those that are matched waits: of two captures, of which the first n and k datagrams are lawful.
use Rattle.std.specs.Prelude.{ℕ}
use Rattle.tftp_packet.specs.{Message, Spells}
use Rattle.tftp_packet.specs.Hosts.{Datagram}
use Rattle.tftp_packet.specs.{Out}
use Rattle.law_model.specs.Rules.{Passed}
use Rattle.law_pair.specs.Captures.{Capture}
use Rattle.law_pair.specs.Messages.{passed_in}
use Rattle.law_pair.specs.MatchedCaptures.{begun, IsNextIn}

-- among the first k datagrams of the capture one went out that says what this one says
abbrev pub IsSentAmong : ℕ → Capture → Datagram → Type 0
IsSentAmong k other d = (m : Message) × Spells d.payload m × Passed Out m (passed_in (begun k other))

-- The datagram after the first i is lawful, and the other end sent what it says: behind what itself waits.
abbrev pub IsSentLater : Capture → ℕ → ℕ → Capture → ℕ → Type 0
IsSentLater own n i other k = (d : Datagram) × IsNextIn (begun n own) i d × IsSentAmong k other d

-- The datagram after the first i is lawful, and the other end never sent what it says.
abbrev pub IsUnsent : Capture → ℕ → ℕ → Capture → ℕ → Type 0
IsUnsent own n i other k = (d : Datagram) × IsNextIn (begun n own) i d × (IsSentAmong k other d → ⊥)
