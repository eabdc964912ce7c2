-- The rules that a datagram may break that passed between the ends, where the recorder may have missed some of what passed:
-- what it breaks whatever is missing. Order says nothing then, and so no rule asks what came first. Lists have the newest first.
use Rattle.std.specs.Prelude.{◌≡◌, ◌≢◌, ◌⊎◌, ℕ, ◌+◌, ◌/◌, ◌%◌, ◌<◌, ◌≤◌, ◌||◌, true, false, List, [], ◌∷◌, length, Any, Some, codes, if◌then◌else◌}
use Rattle.std.specs.FinMap as map
use Rattle.std.specs.List.{AllByRecursion}
use Rattle.tftp_packet.specs.{OptionMap, Num, no_options, Message, RequestParts, Spells, FirstFault, Get, Octet, End, Client}
use Rattle.tftp_packet.specs.Hosts.{same_peer}
use Rattle.tftp_packet.specs.Rounds.{greatest_of}
use Rattle.tftp_nego.specs.{MayAgree, AgreementBroken, Holds, NegoFault, option_or}
use Rattle.law_model.specs.{EndRule, PortRule}
use Rattle.law_end.specs.{IsWrongKind, Rule}
use Rattle.law_end.specs.declared.rule.Rule.TheVariants as rule
use Rattle.law_tap.specs.TapCapture.{TapDatagram, TapSides, side_of}
use Rattle.law_tap.specs.TapRoutes.{asks_in, ends_in, route_from_elsewhere, is_passing}
use Rattle.law_tap.specs.TapRules.{SidesBreak, IsTapRead}
use Rattle.law_tap.specs.declared.route.TapRoute.{TapRoute}
use Rattle.law_tap.specs.declared.route.TapRoute.TheVariants.{Request, FromClient, FromServer, StrayAnswer, WrongPort}

-- ---- where a datagram belongs, by its two sides (RFC 1350, section 4)

-- An ERROR that an end sends elsewhere answers a stray, which may have been missed.
abbrev pub lossy_astray : TapSides → TapDatagram → TapRoute
lossy_astray s d =
    if same_peer d.destination s.client || same_peer d.destination s.server then WrongPort
    else if ends_in d.payload then StrayAnswer
    else WrongPort

abbrev pub lossy_from_client : TapSides → TapDatagram → TapRoute
lossy_from_client s d =
    if asks_in d.payload then (if same_peer d.destination s.asked then Request else WrongPort)
    else if same_peer d.destination s.server then FromClient
    else lossy_astray s d

abbrev pub lossy_route : TapSides → TapDatagram → TapRoute
lossy_route s d =
    if same_peer d.source s.client then lossy_from_client s d
    else if same_peer d.source s.server then (if same_peer d.destination s.client then FromServer else lossy_astray s d)
    else route_from_elsewhere s d

-- ---- what was said

-- in this datagram an end says this to the other one
pub record IsSaidBy (s : TapSides) (e : End) (m : Message) (d : TapDatagram) : Type 0 where
  pub goes : is_passing (lossy_route s d) ≡ true
  pub source : d.source ≡ side_of s e
  pub spells : Spells d.payload m

-- some datagram has it
abbrev pub IsSaid : TapSides → List TapDatagram → End → Message → Type 0
IsSaid s tapped e m = Any (IsSaidBy s e m) tapped

-- a block or an ACK has this number, and so there is such a block
abbrev pub IsNumber : TapSides → List TapDatagram → ℕ → Type 0
IsNumber s tapped k = (e : End) × (IsSaid s tapped e (Message.Ack k) ⊎ ((bytes : List ℕ) × IsSaid s tapped e (Message.Data k bytes)))

-- ---- whatever is missing

-- how many bytes a block has that is not the last, where this was agreed to
abbrev pub block_size : OptionMap → ℕ
block_size agreed = option_or 512 agreed (codes "blksize")

-- Block k of so many bytes, in blocks of b: those below the last one are whole, and the last one is what is left (RFC 1350,
-- section 6).
abbrev pub IsBlockLength : ℕ → ℕ → ℕ → ℕ → Type 0
IsBlockLength b total k long = ((k ≤ total / b) × (long ≡ b)) ⊎ ((k ≡ total / b + 1) × (long ≡ total % b))

-- All that was said can be said in one transfer that agreed to this and had so many bytes to send. With nothing agreed there is
-- no OACK, and no ACK 0 of a read; what an OACK agrees to it can spell. The size that was agreed is that of a file in octet
-- mode (RFC 1350, sections 4 to 6; RFC 2347; RFC 2348; RFC 2349).
pub record Explains (s : TapSides) (asked : RequestParts) (tapped : List TapDatagram) (agreed : OptionMap) (total : ℕ) : Type 0 where
  pub may : MayAgree s.rollover asked agreed
  pub spelled : agreed ≢ no_options → (payload : List ℕ) × Spells payload (Message.Oack agreed)
  pub given : (e : End) (options : OptionMap) → IsSaid s tapped e (Message.Oack options) → (options ≡ agreed) × (agreed ≢ no_options)
  pub zero : asked.side ≡ Get → (e : End) → IsSaid s tapped e (Message.Ack 0) → agreed ≢ no_options
  pub size : asked.mode ≡ Octet → (size : ℕ) → map.get agreed (codes "tsize") ≡ Some (Num size) → total ≡ size
  pub numbered : total / block_size agreed + 1 ≤ greatest_of s.rollover
  pub numbers : (k : ℕ) → IsNumber s tapped k → k ≤ total / block_size agreed + 1
  pub blocks : (e : End) (k : ℕ) (bytes : List ℕ) → IsSaid s tapped e (Message.Data k bytes) → IsBlockLength (block_size agreed) total k (length bytes)

-- whatever was agreed, and however many bytes there were
abbrev pub NothingExplains : TapSides → RequestParts → List TapDatagram → Type 0
NothingExplains s asked tapped = (agreed : OptionMap) (total : ℕ) → Explains s asked tapped agreed total → ⊥

-- the options of an OACK may be agreed to, and no OACK was seen before
pub record IsFirstOffer (s : TapSides) (earlier : List TapDatagram) (asked : RequestParts) (e : End) (options : OptionMap) : Type 0 where
  pub may : MayAgree s.rollover asked options
  pub some : options ≢ no_options
  pub first : (other : OptionMap) → IsSaid s earlier e (Message.Oack other) → ⊥

-- ---- the rules

-- What an end says, after a request that was seen, breaks whatever is missing. Seven rules are not here: they are of order.
abbrev pub LossyBreaks : TapSides → List TapDatagram → TapDatagram → RequestParts → End → Message → Rule → Type 0
-- its end has nothing of this kind to send (RFC 1350, sections 2 and 4)
LossyBreaks s earlier d asked e m rule.WrongKind = IsWrongKind e asked.side m
-- another ERROR of this end (RFC 1350, section 7)
LossyBreaks s earlier d asked e (Message.Error code text) rule.AfterError =
    (c : ℕ) × (t : List ℕ) × IsSaid s earlier e (Message.Error c t) × (Message.Error code text ≢ Message.Error c t)
-- another request (RFC 1350, section 4)
LossyBreaks s earlier d asked e (Message.Request now) rule.RequestChanged = now ≢ asked
-- an OACK that may not be agreed to (RFC 2347; RFC 2348; RFC 2349; RFC 7440, section 3)
LossyBreaks s earlier d asked e (Message.Oack options) (rule.Agreement broken) = AgreementBroken broken asked options
-- another OACK (RFC 2347)
LossyBreaks s earlier d asked e (Message.Oack options) rule.OackChanged =
    (first : OptionMap) × IsSaid s earlier e (Message.Oack first) × (options ≢ first)
-- the first OACK that was seen, where what was said before does not fit it (RFC 2347)
LossyBreaks s earlier d asked e (Message.Oack options) rule.ReplyChanged = IsFirstOffer s earlier asked e options × NothingExplains s asked (d ∷ earlier)
-- blocks are numbered from 1 up to the greatest, which is 65535 by two bytes (RFC 1350, section 5)
LossyBreaks s earlier d asked e (Message.Oack options) (rule.Block EndRule.BeyondBlock65535) = Holds s.rollover NegoFault.BeyondBlock65535 asked options
LossyBreaks s earlier d asked e (Message.Data k bytes) (rule.Block EndRule.BeyondBlock65535) =
    (greatest_of s.rollover < k)
    ⊎ ((k ≡ greatest_of s.rollover) × ((agreed : OptionMap) (total : ℕ) → Explains s asked earlier agreed total → block_size agreed ≤ length bytes))
LossyBreaks s earlier d asked e (Message.Data k bytes) (rule.Block EndRule.BlockZero) = k ≡ 0
-- a block that no block size fits, nor the other blocks and ACKs (RFC 1350, section 6; RFC 2348)
LossyBreaks s earlier d asked e (Message.Data k bytes) (rule.Block EndRule.BlockLength) = NothingExplains s asked (d ∷ earlier)
-- a block that was said with other bytes
LossyBreaks s earlier d asked e (Message.Data k bytes) (rule.Block EndRule.BlockChanged) =
    (other : List ℕ) × IsSaid s earlier e (Message.Data k other) × (bytes ≢ other)
-- an ACK above the last block
LossyBreaks s earlier d asked e (Message.Ack k) (rule.Block EndRule.AckAhead) = (1 ≤ k) × NothingExplains s asked (d ∷ earlier)
-- an ACK 0 of a read that can have agreed to nothing (RFC 2347)
LossyBreaks s earlier d asked e (Message.Ack k) (rule.Block EndRule.AckZero) = (k ≡ 0) × NothingExplains s asked (d ∷ earlier)
LossyBreaks s earlier d asked e _ _ = ⊥

-- a request was seen, and after it this breaks the rule
pub record SaidBreaks (s : TapSides) (earlier : List TapDatagram) (d : TapDatagram) (broken : Rule) : Type 0 where
  pub end : End
  pub message : Message
  pub says : IsSaidBy s end message d
  pub asked : RequestParts
  pub request : IsSaid s earlier Client (Message.Request asked)
  pub breaks : LossyBreaks s earlier d asked end message broken

-- what goes between the two ends and is no packet (RFC 1350, section 5; RFC 2347)
abbrev pub LossyMalformed : TapSides → TapDatagram → Rule → Type 0
LossyMalformed s d (rule.Malformed fault) = (is_passing (lossy_route s d) ≡ true) × FirstFault d.payload fault
LossyMalformed s d _ = ⊥

-- when a datagram breaks each rule whatever is missing
abbrev pub LossyBroken : TapSides → List TapDatagram → TapDatagram → Rule → Type 0
LossyBroken s earlier d broken = SidesBreak (lossy_route s d) d broken ⊎ (LossyMalformed s d broken ⊎ SaidBreaks s earlier d broken)

-- the rules that want what may be missing: the request itself, or that one thing was sent before another
abbrev pub IsOfOrder : Rule → Type 0
IsOfOrder rule.NoRequest = Unit {0}
IsOfOrder rule.RequestAfterStart = Unit {0}
IsOfOrder rule.OackAfterStart = Unit {0}
IsOfOrder (rule.Block EndRule.NotStarted) = Unit {0}
IsOfOrder (rule.Block EndRule.WindowOverrun) = Unit {0}
IsOfOrder (rule.Block EndRule.BlockSkipped) = Unit {0}
IsOfOrder (rule.Block EndRule.GoneBack) = Unit {0}
IsOfOrder _ = ⊥

-- The rules whose breach is certain by the rule's name: what breaks one of them after datagrams that break none does so whatever
-- is missing. Those of order never are; of the others it depends on more than the name.
abbrev pub StandsWhateverIsMissing : Rule → Type 0
StandsWhateverIsMissing (rule.Port PortRule.Foreign) = Unit {0}
StandsWhateverIsMissing (rule.Port PortRule.BadAnswer) = Unit {0}
StandsWhateverIsMissing (rule.Malformed fault) = Unit {0}
StandsWhateverIsMissing rule.WrongKind = Unit {0}
StandsWhateverIsMissing rule.AfterError = Unit {0}
StandsWhateverIsMissing rule.RequestChanged = Unit {0}
StandsWhateverIsMissing (rule.Agreement broken) = Unit {0}
StandsWhateverIsMissing rule.OackChanged = Unit {0}
StandsWhateverIsMissing (rule.Block EndRule.BlockZero) = Unit {0}
StandsWhateverIsMissing (rule.Block EndRule.BlockChanged) = Unit {0}
StandsWhateverIsMissing _ = ⊥

-- the datagram can be read, and breaks no rule
pub record LossyPasses (s : TapSides) (earlier : List TapDatagram) (d : TapDatagram) : Type 0 where
  pub read : IsTapRead (lossy_route s d) d
  pub lawful : (broken : Rule) → LossyBroken s earlier d broken → ⊥

-- so does each datagram after those before it
abbrev pub BreaksNoLossyRule : TapSides → List TapDatagram → Type 0
BreaksNoLossyRule s [] = Unit {0}
BreaksNoLossyRule s (d ∷ earlier) = LossyPasses s earlier d × BreaksNoLossyRule s earlier

-- The oldest datagram of the transfer is its request.
abbrev pub BeginsWithRequest : TapSides → List TapDatagram → Type 0
BeginsWithRequest s [] = ⊥
BeginsWithRequest s (d ∷ earlier) =
    BeginsWithRequest s earlier
    ⊎ (((asked : RequestParts) × IsSaidBy s Client (Message.Request asked) d) × AllByRecursion (λ x. is_passing (lossy_route s x) ≡ false) earlier)
