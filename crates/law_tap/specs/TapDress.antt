-- How the datagrams of a capture between the ends carry what passed there (RFC 1350, sections 4 and 5). Lists have the
-- newest first.
use Rattle.std.specs.Prelude.{◌≡◌, ℕ, List, [], ◌∷◌, map, filter_map, Any, Option, Some, None}
use Rattle.tftp_packet.specs.{Message, Spells, End, Client, Server}
use Rattle.law_model.specs.Model.{Meaning, MachinePacket, Req}
use Rattle.law_end.specs.{BeginsAsRequest, Fits, Saying, says_of}
use Rattle.law_tap.specs.Tap.{Pass, IsTapView, IsWholeAtTap}
use Rattle.law_tap.specs.TapCapture.{TapDatagram, TapSides, side_of}

-- What a datagram is to the transfer: a packet of one of its ends, a stray from elsewhere to one of them, or the answer
-- to a stray.
pub data TapLabel : Type 0 where
  Main : (pass : Pass) → TapLabel
  Stray : TapLabel
  StrayAnswer : TapLabel

pub record TapLabelled : Type 0 where
  pub datagram : TapDatagram
  pub label : TapLabel

abbrev pub TapDivision : Type 0
TapDivision = List TapLabelled

abbrev pub tapped_of : TapDivision → List TapDatagram
tapped_of division = map (λ p. p.datagram) division

abbrev pub pass_in_label : TapLabel → Option Pass
pass_in_label (Main x) = Some x
pass_in_label Stray = None
pass_in_label StrayAnswer = None

-- what passed, by the main datagrams
abbrev pub passed_of : TapDivision → List Pass
passed_of division = filter_map (λ p. pass_in_label p.label) division

-- a packet of this end
abbrev pub IsMainFrom : End → TapLabel → Type 0
IsMainFrom e label = (packet : MachinePacket) × (label ≡ Main (record { from = e; packet = packet }))

-- A request goes to where the client asks. All else goes between the client and the server; the client knows where the
-- server is from what came from there, and so that has passed before.
abbrev pub GoesThere : TapSides → TapDivision → TapDatagram → End → MachinePacket → Type 0
GoesThere s earlier d Client Req = d.destination ≡ s.asked
GoesThere s earlier d Client _ = (d.destination ≡ s.server) × Any (λ p. IsMainFrom Server p.label) earlier
GoesThere s earlier d Server _ = d.destination ≡ s.client

pub record CarriesPass (s : TapSides) (says : Saying) (earlier : TapDivision) (d : TapDatagram) (x : Pass) : Type 0 where
  pub source : d.source ≡ side_of s x.from
  pub goes : GoesThere s earlier d x.from x.packet
  pub spells : says x.packet d.payload

-- A datagram from elsewhere to one of the two ends is no part of the transfer. Where the server goes on from the service
-- port, a request from elsewhere is no stray: it would be another client's.
pub record PassesAstray (s : TapSides) (d : TapDatagram) : Type 0 where
  pub elsewhere : (e : End) → d.source ≡ side_of s e → ⊥
  pub here : (e : End) × (d.destination ≡ side_of s e)
  pub no_request : d.destination ≡ s.server → s.server.port ≡ s.asked.port → BeginsAsRequest d.payload → ⊥

-- An end may answer a stray that came to it by ERROR 5, "Unknown transfer ID", to where it came from.
pub record AnswersTapStray (s : TapSides) (earlier : TapDivision) (d : TapDatagram) : Type 0 where
  pub own : (e : End) × (d.source ≡ side_of s e)
  pub there : Any (λ p. (p.label ≡ Stray) × (p.datagram.source ≡ d.destination) × (p.datagram.destination ≡ d.source)) earlier
  pub spells : (text : List ℕ) × Spells d.payload (Message.Error 5 text)

abbrev pub HasTapLabel : TapSides → Saying → TapDivision → TapDatagram → TapLabel → Type 0
HasTapLabel s says earlier d (Main x) = CarriesPass s says earlier d x
HasTapLabel s says earlier d Stray = PassesAstray s d
HasTapLabel s says earlier d StrayAnswer = AnswersTapStray s earlier d

abbrev pub HaveTapLabels : TapSides → Saying → TapDivision → Type 0
HaveTapLabels s says [] = Unit {0}
HaveTapLabels s says (p ∷ earlier) = HasTapLabel s says earlier p.datagram p.label × HaveTapLabels s says earlier

-- The datagrams can be divided so that the main ones are what passed.
pub record IsTapDressed (s : TapSides) (m : Meaning) (wire : List ℕ) (passed : List Pass) (tapped : List TapDatagram) : Type 0 where
  pub division : TapDivision
  pub whole : tapped_of division ≡ tapped
  pub main : passed_of division ≡ passed
  pub labels : HaveTapLabels s (says_of m wire) division

-- Some run of the meaning, over this wire, passes a tap between its two ends so.
pub record IsSeenBetween (s : TapSides) (m : Meaning) (wire : List ℕ) (tapped : List TapDatagram) : Type 0 where
  pub fits : Fits s.rollover m wire
  pub passed : List Pass
  pub view : IsTapView m wire passed
  pub dressed : IsTapDressed s m wire passed tapped

-- some run has what the capture has
abbrev pub IsLawfulBetween : TapSides → List TapDatagram → Type 0
IsLawfulBetween s tapped = (m : Meaning) × (wire : List ℕ) × IsSeenBetween s m wire tapped

-- and the last ACK has passed (RFC 1350, section 6)
pub record ShowsBetween (s : TapSides) (m : Meaning) (wire : List ℕ) (tapped : List TapDatagram) : Type 0 where
  pub seen : IsSeenBetween s m wire tapped
  pub whole : IsWholeAtTap m wire seen.passed
