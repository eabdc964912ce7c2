-- For which datagrams the judge takes memory. The lists `earlier` and `passed` have the datagrams of the capture and those
-- of the transfer, the newest first.
use Rattle.std.specs.Prelude.{◌≡◌, ◌⊎◌, ℕ, List, []}
use Rattle.tftp_packet.specs.{OptionMap, Message}
use Rattle.tftp_packet.specs.Hosts.{Datagram, Header}
use Rattle.tftp_packet.specs.{Dir}
use Rattle.tftp_ends.specs.{IsNewStray, AreBlocks}
use Rattle.law_model.specs.Rules.{transfer_of, HasPassed, Passed}
use Rattle.tftp_ends.specs.Blocks.{Held}
use Rattle.law_end.specs.{Says}

-- the first request, the first OACK, a block of which none with its number has passed, or the first ERROR that goes this way
abbrev pub IsNew : List Datagram → Dir → Message → Type 0
IsNew passed dir (Message.Request asked) = passed ≡ []
IsNew passed dir (Message.Oack options) = (other : OptionMap) → HasPassed (Message.Oack other) passed → ⊥
IsNew passed dir (Message.Data k bytes) = (other : List ℕ) → HasPassed (Message.Data k other) passed → ⊥
IsNew passed dir (Message.Error code text) = (other : ℕ) (words : List ℕ) → Passed dir (Message.Error other words) passed → ⊥
IsNew passed dir (Message.Ack j) = ⊥

-- one of these messages of the transfer, or a stray from where none has come
abbrev pub TakesMemory : Header → List Datagram → Datagram → Type 0
TakesMemory h earlier d = IsNewStray h earlier d ⊎ ((m : Message) × Says h earlier d m × IsNew (transfer_of h earlier) d.dir m)

-- the blocks that have passed are such as a store takes memory for, to join them
abbrev pub TakesForJoin : (Held → Type 0) → List Datagram → Type 0
TakesForJoin Takes passed = (held : Held) × AreBlocks passed held × Takes held
