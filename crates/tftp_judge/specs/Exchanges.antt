-- What may come by how the request was answered.
use Rattle.std.specs.Prelude.{◌≡◌}
use Rattle.tftp_packet.specs.{Message, Data, Side, Put}
use Rattle.tftp_ends.specs.{IsNewBlock, held_of}
use Rattle.tftp_judge.specs.Kept.{Exchange, Unanswered, Begun, Agreed, Transfer}

-- the request is answered
abbrev pub HasAnswer : Exchange → Type 0
HasAnswer Unanswered = ⊥
HasAnswer (Begun end) = Unit {0}
HasAnswer (Agreed options end) = Unit {0}

-- a block that the end does not hold, once it has begun
abbrev pub IsNewBlockOn : Exchange → Message → Type 0
IsNewBlockOn Unanswered m = ⊥
IsNewBlockOn (Begun end) m = IsNewBlock (held_of end) m
IsNewBlockOn (Agreed options end) m = IsNewBlock (held_of end) m

-- a block of a write, which waits for the reply (RFC 1350, section 4)
abbrev pub WaitsForReply : Side → Message → Type 0
WaitsForReply Put (Data k bytes) = Unit {0}
WaitsForReply _ _ = ⊥

-- only the exchange has changed
abbrev pub DiffersByExchange : Transfer → Transfer → Type 0
DiffersByExchange old new =
    (new.named ≡ old.named) × (new.asked ≡ old.asked) × (new.block_sent ≡ old.block_sent) × (new.ack_sent ≡ old.ack_sent) × (new.errors ≡ old.errors)
    × (new.rollover ≡ old.rollover)

-- only what the named end has sent has changed
abbrev pub DiffersBySent : Transfer → Transfer → Type 0
DiffersBySent old new =
    (new.named ≡ old.named) × (new.asked ≡ old.asked) × (new.exchange ≡ old.exchange) × (new.errors ≡ old.errors)
    × (new.rollover ≡ old.rollover)
