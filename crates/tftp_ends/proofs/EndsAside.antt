-- Requests, OACKs and an ERROR that goes out leave the named end as it is.
use Rattle.std.proofs.Common.{List, ◌∷◌}
use Rattle.tftp_packet.specs.{Message, Spells}
use Rattle.tftp_packet.specs.Hosts.{Datagram}
use Rattle.tftp_ends.specs.{NamedEnd, Sends, Receives, IsEndAfter, IsAside}
use Rattle.tftp_ends.proofs.AfterSender.{sender_aside}
use Rattle.tftp_ends.proofs.AfterReceiver.{receiver_aside}

pub end_aside : (end : NamedEnd) (passed : List Datagram) (d : Datagram) (m : Message) → IsEndAfter end passed → Spells d.payload m → IsAside d.dir m → IsEndAfter end (d ∷ passed)
end_aside (Sends s) passed d m after spells is = sender_aside s passed d m after spells is
end_aside (Receives r) passed d m after spells is = receiver_aside r passed d m after spells is
