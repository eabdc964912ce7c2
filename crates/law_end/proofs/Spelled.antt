-- A payload spells one message.
use Rattle.std.proofs.Common.{◌≡◌, ℕ, List}
use Rattle.tftp_packet.specs.{Message, Spells}
use Rattle.tftp_packet.proofs.Unique.{one_message}

pub spelled_once : (payload : List ℕ) (x y : Message) → Spells payload x → Spells payload y → x ≡ y
spelled_once payload x y s t = one_message payload x y s.1 t.1
