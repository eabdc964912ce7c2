-- What the parts of `read_packet` answer.
use Rattle.std.specs.Prelude.{ℕ, List, Result, MatchResult}
use Rattle.tftp_packet.specs.AsWritten.{IsWritten}
use Rattle.tftp_packet.specs.Spelling.{Layout}
use Rattle.tftp_packet.specs.Meaning.{meaning}
use Rattle.tftp_packet.specs.Faults.{FirstFault}
use Rattle.tftp_packet.specs.declared.packet.Packet.{Packet}
use Rattle.tftp_packet.specs.declared.fault.PacketFault.{PacketFault}

-- the packet that is laid out and written so, or the first fault
abbrev pub Judges : List ℕ → Result Packet PacketFault → Type 0
Judges payload result = MatchResult result (λ packet. Layout payload (meaning packet) × IsWritten payload packet) (FirstFault payload)
