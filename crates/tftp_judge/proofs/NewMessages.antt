-- For which messages memory is taken: those that are new after the ones that have passed.
use Rattle.std.proofs.Common.{inl, inr, List}
use Rattle.tftp_packet.specs.{OptionMap, Message, Side}
use Rattle.tftp_packet.specs.Hosts.{Datagram}
use Rattle.tftp_ends.specs.{NamedEnd, Sends, Receives, IsEndAfter, held_of, AreBlocks}
use Rattle.law_model.specs.Rules.{HasPassed}
use Rattle.law_end.specs.{NotAnswered}
use Rattle.law_end.proofs.Accord.FirstReply.{no_oack as none_this_way}

-- ---- blocks

pub blocks_of : (end : NamedEnd) (passed : List Datagram) → IsEndAfter end passed → AreBlocks passed (held_of end)
blocks_of (Sends s) passed after = after.blocks
blocks_of (Receives r) passed after = after.blocks

-- ---- the first OACK

pub no_oack : (side : Side) (passed : List Datagram) → NotAnswered side passed → (other : OptionMap) → HasPassed (Message.Oack other) passed → ⊥
no_oack side passed none other (inl came) = none_this_way side _ other passed none came
no_oack side passed none other (inr went) = none_this_way side _ other passed none went
