-- When the datagrams of a capture are lawful one after another, by the rules, and when they are a whole transfer.
-- The list `earlier` has the datagrams that have passed, the newest first.
use Rattle.std.specs.Prelude.{◌≡◌, ◌⊎◌, ℕ, List, [], ◌∷◌}
use Rattle.tftp_packet.specs.{OptionMap, no_options, Message, RequestParts, Spells}
use Rattle.tftp_packet.specs.Hosts.{Datagram, Header}
use Rattle.tftp_packet.specs.{In, Out}
use Rattle.law_model.specs.Model.{Meaning, request_of}
pub use Rattle.law_model.specs.Rules.Joined.{IsJoined}
use Rattle.law_model.specs.Rules.{Route, route_of, transfer_of, SaysUnknownId, Passed, IsFront, IsLast, IsSender, IsReceiver}
use Rattle.law_model.specs.{Terms}
use Rattle.law_end.specs.Fitting.{ReadsAs}
use Rattle.law_end.specs.Replies.{FirstAsked, Agrees, FirstAnswer, AreTerms}
use Rattle.law_end.specs.Rules.{Broken, FirstBroken}
use Rattle.law_end.specs.declared.rule.Rule.{Rule}

-- what is read of a datagram on each route that it may have: a packet of the transfer, nothing of a stray, and ERROR 5
-- in answer to one
abbrev pub IsRead : Route → Datagram → Type 0
IsRead Route.Request d = (m : Message) × Spells d.payload m
IsRead Route.Peer d = (m : Message) × Spells d.payload m
IsRead Route.Stray d = Unit {0}
IsRead Route.StrayAnswer d = SaysUnknownId d
IsRead _ d = ⊥

-- the datagram can be read, and breaks no rule
pub record Passes (h : Header) (earlier : List Datagram) (d : Datagram) : Type 0 where
  pub read : IsRead (route_of h earlier d) d
  pub lawful : (rule : Rule) → Broken h earlier d rule → ⊥

-- each datagram passes after those before it
abbrev pub OneEnded : Header → List Datagram → Type 0
OneEnded h [] = Unit {0}
OneEnded h (d ∷ earlier) = Passes h earlier d × OneEnded h earlier

-- The datagrams before it pass, and this one is the first that does not, by this rule.
pub record IsRefused (h : Header) (earlier : List Datagram) (d : Datagram) (rule : Rule) : Type 0 where
  pub lawful : OneEnded h earlier
  pub broken : FirstBroken h earlier d rule

-- The last block is known. The receiver has all blocks up to it and has acknowledged it; the sender has that ACK
-- (RFC 1350, section 6).
pub record IsWhole (t : Terms) (passed : List Datagram) (last : ℕ) : Type 0 where
  pub known : IsLast t passed last
  pub front : IsReceiver t → IsFront passed last
  pub acknowledged : IsReceiver t → Passed Out (Message.Ack last) passed
  pub was_told : IsSender t → Passed In (Message.Ack last) passed

-- the options of the first OACK, or none
abbrev pub IsAgreed : RequestParts → List Datagram → OptionMap → Type 0
IsAgreed asked passed agreed =
    FirstAnswer asked.side passed (Agrees agreed)
    ⊎ ((agreed ≡ no_options) × ((options : OptionMap) → FirstAnswer asked.side passed (Agrees options) → ⊥))

-- the datagrams break no rule, and are a whole transfer
pub record IsEnded (h : Header) (earlier : List Datagram) : Type 0 where
  pub lawful : OneEnded h earlier
  pub terms : Terms
  pub known : AreTerms h earlier terms
  pub last : ℕ
  pub whole : IsWhole terms (transfer_of h earlier) last

-- What the whole transfer means: what was asked for first, what was agreed first, and the file, which is what the
-- blocks up to the last read as.
pub record Meant (h : Header) (earlier : List Datagram) (m : Meaning) : Type 0 where
  pub ended : IsEnded h earlier
  pub asked : FirstAsked h earlier (request_of m)
  pub agreed : IsAgreed (request_of m) (transfer_of h earlier) m.agreed
  pub wire : List ℕ
  pub joined : IsJoined ended.terms.blksize (transfer_of h earlier) ended.last wire
  pub file : ReadsAs m.mode wire m.file
