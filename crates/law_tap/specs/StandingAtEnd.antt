-- Which refusals at an end stand whatever the recorder missed. Lists have the newest first.
use Rattle.std.specs.Prelude.{◌≡◌, ◌≢◌, ◌⊎◌, ℕ, List, Any, None, codes}
use Rattle.std.specs.FinMap as map
use Rattle.tftp_packet.specs.{OptionMap, Message, RequestParts, Spells, Get, Server, Out}
use Rattle.tftp_packet.specs.Hosts.{Datagram, Header}
use Rattle.law_model.specs.{EndRule}
use Rattle.law_end.specs.{Agrees, FirstAnswer, Rule}
use Rattle.law_end.specs.declared.rule.Rule.TheVariants as rule

-- What an end says to nobody but the other one: no request, which goes out before anybody has answered, and no ERROR 5, which may answer
-- a stray (RFC 1350, section 4).
abbrev pub IsForOtherEnd : Message → Type 0
IsForOtherEnd (Message.Request asked) = ⊥
IsForOtherEnd (Message.Error code text) = code ≢ 5
IsForOtherEnd _ = Unit {0}

-- by this datagram the end has gone on with the other one
pub record GoesOnWith (d : Datagram) : Type 0 where
  pub out : d.dir ≡ Out
  pub message : Message
  pub says : Spells d.payload message
  pub alone : IsForOtherEnd message

-- Which port and host are the other end's is known from what was recorded, whatever is missing: a server's client is who asked it, and a
-- client's server is with whom it has gone on. Who sent a client something may be a stray.
abbrev pub KnowsOtherEnd : Header → List Datagram → Type 0
KnowsOtherEnd h seen = (h.named ≡ Server) ⊎ Any GoesOnWith seen

-- The rules whose breach at an end is certain by the rule's name, where the other end is known. Of the rules of order these are two: what an
-- end sends after what it sent itself. What allows a packet may be missing.
abbrev pub StandsAtEnd : Rule → Type 0
StandsAtEnd (rule.Malformed fault) = Unit {0}
StandsAtEnd rule.WrongKind = Unit {0}
StandsAtEnd rule.AfterError = Unit {0}
StandsAtEnd rule.RequestChanged = Unit {0}
StandsAtEnd rule.RequestAfterStart = Unit {0}
StandsAtEnd (rule.Agreement broken) = Unit {0}
StandsAtEnd rule.OackChanged = Unit {0}
StandsAtEnd rule.OackAfterStart = Unit {0}
StandsAtEnd (rule.Block EndRule.BlockZero) = Unit {0}
StandsAtEnd (rule.Block EndRule.BlockChanged) = Unit {0}
StandsAtEnd _ = ⊥

-- Of these, those by which what the end sends itself is certain whether the other one is known or not: all but rule 7, since an ERROR 5 may
-- have answered a stray.
abbrev pub StandsOfItsOwn : Rule → Type 0
StandsOfItsOwn rule.AfterError = ⊥
StandsOfItsOwn broken = StandsAtEnd broken

-- What was agreed to for this option is known from what was recorded, whatever is missing: the request does not ask for it, or what answered
-- the request first is an OACK (RFC 2347).
abbrev pub IsKnownOption : List ℕ → RequestParts → List Datagram → Type 0
IsKnownOption name asked passed = (map.get asked.options name ≡ None) ⊎ ((agreed : OptionMap) × FirstAnswer asked.side passed (Agrees agreed))

-- no option is asked for, and so none can be agreed to
abbrev pub AsksForNothing : RequestParts → Type 0
AsksForNothing asked = (name : List ℕ) → map.get asked.options name ≡ None

-- What breaks these rules is certain by what is known of the options: that a sender goes back, where the window is known (RFC 7440, section
-- 4); that a block has a wrong length, or is whole and has the greatest number, where the block size is (RFC 2348); and an ACK 0 of a read,
-- which answers an OACK, where nothing is asked for. An OACK alone tells that the file is too long for the numbers of its blocks.
abbrev pub StandsByOptions : RequestParts → List Datagram → Message → Rule → Type 0
StandsByOptions asked passed (Message.Data k bytes) (rule.Block EndRule.GoneBack) = IsKnownOption (codes "windowsize") asked passed
StandsByOptions asked passed (Message.Data k bytes) (rule.Block EndRule.BlockLength) = IsKnownOption (codes "blksize") asked passed
StandsByOptions asked passed (Message.Data k bytes) (rule.Block EndRule.BeyondBlock65535) = IsKnownOption (codes "blksize") asked passed
StandsByOptions asked passed (Message.Oack options) (rule.Block EndRule.BeyondBlock65535) = Unit {0}
StandsByOptions asked passed (Message.Ack j) (rule.Block EndRule.AckZero) = (asked.side ≡ Get) × AsksForNothing asked
StandsByOptions asked passed m _ = ⊥
