-- What a datagram of the transfer breaks by itself between the ends, apart from what the end that gets the file would find.
-- The list `passed` has the datagrams of the transfer that have passed, the newest first.
use Rattle.std.specs.Prelude.{◌≡◌, ◌⊎◌, ℕ, List, Option, Some, None, Result, Ok, Err}
use Rattle.tftp_packet.specs.{IsFirst, Message, RequestParts, meaning, Spells, FirstFault, Packet, PacketFault, End, Client}
use Rattle.law_end.specs.{IsWrongKind, number_of, Rule}
use Rattle.law_end.specs.declared.rule.Rule.TheVariants as rule
use Rattle.law_tap.specs.{TapDatagram, TapSides, PassingBreaks, LateBreaks, LateBroken, TapRoute}
use Rattle.judge_tap.specs.TapSeen.{ErrorPassed}

-- none is broken, or this is the first that is
abbrev pub FindsRule : (Rule → Type 0) → Option Rule → Type 0
FindsRule Breaks None = (rule : Rule) → Breaks rule → ⊥
FindsRule Breaks (Some rule) = IsFirst number_of Breaks rule

-- by what it says, and by what had passed before an ERROR
abbrev pub OwnBreaks : TapSides → List TapDatagram → TapRoute → TapDatagram → Rule → Type 0
OwnBreaks s passed route d broken = PassingBreaks s passed route d broken ⊎ LateBroken s passed d broken

-- the answer of reading this payload
abbrev pub IsReadOf : List ℕ → Result Packet PacketFault → Type 0
IsReadOf payload (Ok packet) = Spells payload (meaning packet)
IsReadOf payload (Err fault) = FirstFault payload fault

-- ---- the same of a message of this end

-- an ERROR that is not the first one of its end again (RFC 1350, section 7)
abbrev pub IsOtherError : TapSides → List TapDatagram → End → Message → Type 0
IsOtherError s passed e (Message.Error code text) =
    (other : ℕ) × (words : List ℕ) × ErrorPassed s e passed other words × ((code ≡ other) × (text ≡ words) → ⊥)
IsOtherError s passed e _ = ⊥

-- a request of the client that is not the first one again (RFC 1350, section 4)
abbrev pub IsOtherRequest : RequestParts → End → Message → Type 0
IsOtherRequest asked Client (Message.Request now) = now ≡ asked → ⊥
IsOtherRequest asked e _ = ⊥

abbrev pub MessageBreaks : TapSides → RequestParts → List TapDatagram → End → Message → Rule → Type 0
MessageBreaks s asked passed e m broken =
    ((broken ≡ rule.WrongKind) × IsWrongKind e asked.side m)
    ⊎ (((broken ≡ rule.AfterError) × IsOtherError s passed e m)
    ⊎ (((broken ≡ rule.RequestChanged) × IsOtherRequest asked e m)
    ⊎ LateBreaks s asked.side passed m broken))
