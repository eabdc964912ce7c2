-- The rules that a datagram may break that passed between the ends, after those that have passed. The list `earlier` has all
-- that have passed, `passed` those of the transfer, the newest first.
use Rattle.std.specs.Prelude.{◌≡◌, ◌≢◌, ◌⊎◌, ℕ, ◌<◌, ◌≤◌, ◌&&◌, ◌||◌, not, Bool, true, false, List, [], ◌∷◌, map, Any, Option, Some, None, option_map, if◌then◌else◌}
use Rattle.std.specs.List.{list_any}
use Rattle.tftp_packet.specs.{Message, RequestParts, Spells, FirstFault, Side, Get, Put, End, Client, Server}
use Rattle.tftp_packet.specs.Hosts.{Datagram, Header, same_peer}
use Rattle.tftp_packet.specs.{In, Out}
use Rattle.law_model.specs.Model.Roles.{receiver_of}
use Rattle.law_model.specs.Rules.{first_of}
use Rattle.law_model.specs.{EndRule, PortRule}
use Rattle.law_end.specs.{Broken, IsWrongKind, number_of, Rule}
use Rattle.law_end.specs.declared.rule.Rule.TheVariants as rule
use Rattle.law_tap.specs.TapCapture.{PeerId, TapDatagram, TapSides, side_of}
use Rattle.law_tap.specs.TapOrder.{is_left_out, kept_of, before_error}
use Rattle.law_tap.specs.TapRoutes.{asks_in, ends_in, tap_tests, tap_route, is_passing, transfer_between}
use Rattle.law_tap.specs.declared.route.TapRoute.{TapRoute}

-- what an end would have recorded of a datagram of the transfer
abbrev pub recorded_at : TapSides → End → TapDatagram → Datagram
recorded_at s e d =
    if same_peer d.source (side_of s e) then record { dir = Out; local = d.source.port; host = d.destination.host; remote = d.destination.port; payload = d.payload }
    else record { dir = In; local = d.destination.port; host = d.source.host; remote = d.source.port; payload = d.payload }

-- the end that gets the file, as a place where a capture is taken
abbrev pub header_at : TapSides → Side → Header
header_at s side = record { named = receiver_of side; service = s.asked.port; rollover = s.rollover }

-- what that end would have recorded of what is kept
abbrev pub kept_between : TapSides → Side → List TapDatagram → List Datagram
kept_between s side passed = map (recorded_at s (receiver_of side)) (kept_of (tap_tests s) (receiver_of side) passed)

-- the first request spells this
abbrev pub FirstTapAsked : TapSides → List TapDatagram → RequestParts → Type 0
FirstTapAsked s passed asked = (d : TapDatagram) × (first_of (tap_tests s).asks passed ≡ Some d) × Spells d.payload (Message.Request asked)

-- a datagram spells a message of this kind
abbrev pub Says : (Message → Type 0) → TapDatagram → Type 0
Says Kind d = (m : Message) × Spells d.payload m × Kind m

abbrev pub HasKind : (Message → Type 0) → List TapDatagram → Type 0
HasKind Kind passed = Any (Says Kind) passed

abbrev pub IsBlock : ℕ → Message → Type 0
IsBlock k (Message.Data i bytes) = i ≡ k
IsBlock k _ = ⊥

abbrev pub IsSomeBlock : Message → Type 0
IsSomeBlock (Message.Data i bytes) = Unit {0}
IsSomeBlock _ = ⊥

abbrev pub IsOack : Message → Type 0
IsOack (Message.Oack options) = Unit {0}
IsOack _ = ⊥

-- what answers a write (RFC 1350, section 4; RFC 2347)
abbrev pub IsReply : Message → Type 0
IsReply (Message.Oack options) = Unit {0}
IsReply (Message.Ack j) = j ≡ 0
IsReply _ = ⊥

-- ports and hosts (RFC 1350, section 4)
abbrev pub SidesBreak : TapRoute → TapDatagram → Rule → Type 0
SidesBreak route d (rule.Port PortRule.Foreign) = route ≡ TapRoute.ForeignPort
SidesBreak route d (rule.Port PortRule.Wrong) = route ≡ TapRoute.WrongPort
SidesBreak route d (rule.Port PortRule.BadAnswer) = (route ≡ TapRoute.NoStrayAnswer) ⊎ ((route ≡ TapRoute.StrayAnswer) × ((text : List ℕ) → Spells d.payload (Message.Error 5 text) → ⊥))
SidesBreak route d _ = ⊥

-- an ERROR of an end after another one of it (RFC 1350, section 7)
pub record OtherError (s : TapSides) (passed : List TapDatagram) (d : TapDatagram) : Type 0 where
  pub end : End
  pub source : d.source ≡ side_of s end
  pub code : ℕ
  pub text : List ℕ
  pub says : Spells d.payload (Message.Error code text)
  pub first_code : ℕ
  pub first_text : List ℕ
  pub before : Any (λ x. (x.source ≡ side_of s end) × Spells x.payload (Message.Error first_code first_text)) passed
  pub differs : (code ≡ first_code) × (text ≡ first_text) → ⊥

-- An ACK of a block that had not passed before the receiver's first ERROR; an ACK 0 that answers nothing which had (RFC 1350,
-- sections 2 and 4; RFC 2347).
abbrev pub IsLateAck : TapSides → Side → List TapDatagram → ℕ → Type 0
IsLateAck s side passed j = (k : ℕ) × (1 ≤ k) × (k ≤ j) × (HasKind (IsBlock k) (before_error (tap_tests s) (receiver_of side) passed) → ⊥)

abbrev pub IsLateZero : TapSides → Side → List TapDatagram → Type 0
IsLateZero s Get passed = HasKind IsOack (before_error (tap_tests s) Client passed) → ⊥
IsLateZero s Put passed = HasKind IsOack passed × (HasKind IsSomeBlock (before_error (tap_tests s) Server passed) → ⊥)

-- a block of a write whose answer had not passed before the client's first ERROR (RFC 1350, section 4; RFC 2347)
abbrev pub IsLateBlock : TapSides → Side → List TapDatagram → Type 0
IsLateBlock s Get passed = ⊥
IsLateBlock s Put passed = HasKind IsReply (before_error (tap_tests s) Client passed) → ⊥

abbrev pub LateBreaks : TapSides → Side → List TapDatagram → Message → Rule → Type 0
LateBreaks s side passed (Message.Data k bytes) (rule.Block EndRule.NotStarted) = IsLateBlock s side passed
LateBreaks s side passed (Message.Ack j) (rule.Block EndRule.AckAhead) = IsLateAck s side passed j
LateBreaks s side passed (Message.Ack j) (rule.Block EndRule.AckZero) = (j ≡ 0) × IsLateZero s side passed
LateBreaks s side passed _ _ = ⊥

-- by what the datagram says
abbrev pub PassingBreaks : TapSides → List TapDatagram → TapRoute → TapDatagram → Rule → Type 0
PassingBreaks s passed route d rule.NoRequest = (list_any (tap_tests s).asks passed ≡ false) × (route ≡ TapRoute.FromServer)
PassingBreaks s passed route d (rule.Malformed fault) = FirstFault d.payload fault
PassingBreaks s passed route d rule.WrongKind = (asked : RequestParts) × FirstTapAsked s passed asked × (e : End) × (d.source ≡ side_of s e) × Says (IsWrongKind e asked.side) d
PassingBreaks s passed route d rule.AfterError = OtherError s passed d
PassingBreaks s passed route d rule.RequestChanged = (first now : RequestParts) × FirstTapAsked s passed first × (d.source ≡ s.client) × Spells d.payload (Message.Request now) × (now ≢ first)
PassingBreaks s passed route d _ = ⊥

-- the rules of ports and hosts, which between the ends are told by the two sides alone
abbrev pub is_of_ports : Rule → Bool
is_of_ports (rule.Port port) = true
is_of_ports _ = false

-- What is kept breaks what it would break at the receiver, who recorded just what is kept, but for the rules of ports.
pub record KeptBreaks (s : TapSides) (passed : List TapDatagram) (d : TapDatagram) (broken : Rule) : Type 0 where
  pub of_content : is_of_ports broken ≡ false
  pub asked : RequestParts
  pub first : FirstTapAsked s passed asked
  pub stays : is_left_out (tap_tests s) (receiver_of asked.side) d (kept_of (tap_tests s) (receiver_of asked.side) passed) ≡ false
  pub breaks : Broken (header_at s asked.side) (kept_between s asked.side passed) (recorded_at s (receiver_of asked.side) d) broken

pub record LateBroken (s : TapSides) (passed : List TapDatagram) (d : TapDatagram) (broken : Rule) : Type 0 where
  pub asked : RequestParts
  pub first : FirstTapAsked s passed asked
  pub message : Message
  pub says : Spells d.payload message
  pub breaks : LateBreaks s asked.side passed message broken

-- when a datagram breaks each rule
abbrev pub TapBroken : TapSides → List TapDatagram → TapDatagram → Rule → Type 0
TapBroken s earlier d broken =
    SidesBreak (tap_route s earlier d) d broken
    ⊎ ((is_passing (tap_route s earlier d) ≡ true)
    × (PassingBreaks s (transfer_between s earlier) (tap_route s earlier d) d broken
    ⊎ (LateBroken s (transfer_between s earlier) d broken ⊎ KeptBreaks s (transfer_between s earlier) d broken)))

-- what is read of a datagram on each route
abbrev pub IsTapRead : TapRoute → TapDatagram → Type 0
IsTapRead TapRoute.Request d = (m : Message) × Spells d.payload m
IsTapRead TapRoute.FromClient d = (m : Message) × Spells d.payload m
IsTapRead TapRoute.FromServer d = (m : Message) × Spells d.payload m
IsTapRead TapRoute.Stray d = Unit {0}
IsTapRead TapRoute.StrayAnswer d = (text : List ℕ) × Spells d.payload (Message.Error 5 text)
IsTapRead _ d = ⊥

-- the datagram can be read, and breaks no rule
pub record TapPasses (s : TapSides) (earlier : List TapDatagram) (d : TapDatagram) : Type 0 where
  pub read : IsTapRead (tap_route s earlier d) d
  pub lawful : (broken : Rule) → TapBroken s earlier d broken → ⊥

-- each datagram passes after those before it
abbrev pub BreaksNoTapRule : TapSides → List TapDatagram → Type 0
BreaksNoTapRule s [] = Unit {0}
BreaksNoTapRule s (d ∷ earlier) = TapPasses s earlier d × BreaksNoTapRule s earlier

-- the first rule in their order that the datagram breaks
pub record FirstTapBroken (s : TapSides) (earlier : List TapDatagram) (d : TapDatagram) (broken : Rule) : Type 0 where
  pub breaks : TapBroken s earlier d broken
  pub first : (other : Rule) → number_of other < number_of broken → TapBroken s earlier d other → ⊥

-- Each datagram before it passes, and this one is the first that does not, by this rule.
pub record IsTapRefused (s : TapSides) (earlier : List TapDatagram) (d : TapDatagram) (broken : Rule) : Type 0 where
  pub lawful : BreaksNoTapRule s earlier
  pub refused : FirstTapBroken s earlier d broken

-- Which server a recording tells: the one that the client's first datagram goes to that is neither a request nor an ERROR; and
-- if there is none, the one that what first came to the client came from.
abbrev pub goes_on_to : TapSides → TapDatagram → Bool
goes_on_to s d = same_peer d.source s.client && not (asks_in d.payload || ends_in d.payload)

abbrev pub told_server : TapSides → List TapDatagram → Option PeerId
told_server s tapped = by (first_of (goes_on_to s) tapped) (first_of (λ (d : TapDatagram). same_peer d.destination s.client) tapped) where
  by : Option TapDatagram → Option TapDatagram → Option PeerId
  by (Some d) came = Some d.destination
  by None came = option_map (λ (d : TapDatagram). d.source) came

-- the rules of the order in which an end sends
abbrev pub IsOfSending : Rule → Type 0
IsOfSending rule.RequestAfterStart = Unit {0}
IsOfSending rule.OackAfterStart = Unit {0}
IsOfSending (rule.Block EndRule.BlockSkipped) = Unit {0}
IsOfSending (rule.Block EndRule.GoneBack) = Unit {0}
IsOfSending _ = ⊥
