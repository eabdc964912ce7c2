-- The rules that a message of the transfer may break, where it is known what was asked for first: those of all messages,
-- and those of each kind. The list `passed` has the transfer's datagrams so far, the newest first.
use Rattle.std.specs.Prelude.{◌≡◌, ◌≢◌, ◌⊎◌, ℕ, List, Option}
use Rattle.tftp_packet.specs.{OptionMap, Message, RequestParts, Side, Get, Put, End, Client, Server}
use Rattle.tftp_packet.specs.Hosts.{Datagram, Header}
use Rattle.tftp_packet.specs.{Dir, Out}
use Rattle.tftp_packet.specs.{Rollover}
use Rattle.law_model.specs.Rules.{author_of, Passed, EndBroken}
use Rattle.law_model.specs.{Terms, EndRule}
use Rattle.tftp_nego.specs.{AgreementBroken, Holds, NegoFault}
use Rattle.law_end.specs.Replies.{Agrees, Begins, NotAnswered, FirstAnswer, AreTermsAfter}
use Rattle.law_end.specs.declared.rule.Rule.{Rule}
use Rattle.law_end.specs.declared.rule.Rule.TheVariants.{WrongKind, AfterError, RequestChanged, RequestAfterStart, ReplyChanged, Agreement, OackChanged, OackAfterStart, Block}

-- what the client may not send on this side, and what the server may not (RFC 1350, sections 2 and 4)
abbrev pub IsWrongKind : End → Side → Message → Type 0
IsWrongKind Client Get (Message.Data k bytes) = Unit {0}
IsWrongKind Client Put (Message.Ack j) = Unit {0}
IsWrongKind Client side (Message.Oack options) = Unit {0}
IsWrongKind Server Get (Message.Ack j) = Unit {0}
IsWrongKind Server Put (Message.Data k bytes) = Unit {0}
IsWrongKind Server side (Message.Request request) = Unit {0}
IsWrongKind _ _ _ = ⊥

abbrev pub IsError : Message → Type 0
IsError m = (code : ℕ) × (text : List ℕ) × (m ≡ Message.Error code text)

-- An ERROR went this way, and this is not that ERROR again (RFC 1350, section 7). What comes in and is no ERROR may have
-- been sent before it.
abbrev pub GoesOn : List Datagram → Dir → Message → Type 0
GoesOn passed dir now = (stop : Message) × IsError stop × Passed dir stop passed × (now ≢ stop) × ((dir ≡ Out) ⊎ IsError now)

-- the end sent a block, or an ACK, or either
abbrev pub BlockSent : List Datagram → Type 0
BlockSent passed = (k : ℕ) × (bytes : List ℕ) × Passed Out (Message.Data k bytes) passed

abbrev pub AckSent : List Datagram → Type 0
AckSent passed = (j : ℕ) × Passed Out (Message.Ack j) passed

abbrev pub ClientWentOn : List Datagram → Type 0
ClientWentOn passed = BlockSent passed ⊎ AckSent passed

-- a request
abbrev pub RequestBreaks : RequestParts → List Datagram → Dir → RequestParts → Rule → Type 0
-- it is not the first one again (RFC 1350, section 4)
RequestBreaks asked passed dir now RequestChanged = now ≢ asked
-- the client sends it after an ACK or a block (RFC 1350, section 4)
RequestBreaks asked passed dir now RequestAfterStart = (dir ≡ Out) × ClientWentOn passed
RequestBreaks asked passed dir now _ = ⊥

-- the first OACK: it has no option, or one that may not be agreed (RFC 2347; RFC 2348; RFC 2349; RFC 7440, section 3)
abbrev pub FirstOackBreaks : Option Rollover → RequestParts → OptionMap → Rule → Type 0
FirstOackBreaks rollover asked oack (Agreement rule) = AgreementBroken rule asked oack
FirstOackBreaks rollover asked oack (Block EndRule.BeyondBlock65535) = Holds rollover NegoFault.BeyondBlock65535 asked oack
FirstOackBreaks rollover asked oack _ = ⊥

-- an OACK after the first one, where that one is known
abbrev pub LaterOackBreaks : Side → List Datagram → Dir → OptionMap → OptionMap → Rule → Type 0
LaterOackBreaks side passed dir first oack OackChanged = oack ≢ first
LaterOackBreaks side passed dir first oack OackAfterStart = (dir ≡ Out) × (side ≡ Get) × BlockSent passed
LaterOackBreaks side passed dir first oack _ = ⊥

-- an OACK
abbrev pub OackBreaks : Option Rollover → RequestParts → List Datagram → Dir → OptionMap → Rule → Type 0
-- the request was answered without one (RFC 2347)
OackBreaks rollover asked passed dir oack ReplyChanged = FirstAnswer asked.side passed Begins
-- it is not the first one again, or the server of a read sends it after a block (RFC 2347)
OackBreaks rollover asked passed dir oack OackChanged = (first : OptionMap) × FirstAnswer asked.side passed (Agrees first) × (oack ≢ first)
OackBreaks rollover asked passed dir oack OackAfterStart = (dir ≡ Out) × (asked.side ≡ Get) × BlockSent passed
-- it is the first one
OackBreaks rollover asked passed dir oack rule = NotAnswered asked.side passed × FirstOackBreaks rollover asked oack rule

-- a block or an ACK (RFC 1350, sections 2, 4 and 5; RFC 2347; RFC 2349; RFC 7440, section 4)
abbrev pub TermsBreak : Header → RequestParts → List Datagram → Message → Rule → Type 0
TermsBreak h asked passed m rule = (e : EndRule) × (rule ≡ Block e) × (t : Terms) × AreTermsAfter h asked passed t × EndBroken t passed m e

-- by the kind of message
abbrev pub KindBreaks : Header → RequestParts → List Datagram → Dir → Message → Rule → Type 0
KindBreaks h asked passed dir (Message.Request now) rule = RequestBreaks asked passed dir now rule
KindBreaks h asked passed dir (Message.Error code text) rule = ⊥
KindBreaks h asked passed dir (Message.Oack oack) rule = OackBreaks h.rollover asked passed dir oack rule
KindBreaks h asked passed dir (Message.Data k bytes) rule = TermsBreak h asked passed (Message.Data k bytes) rule
KindBreaks h asked passed dir (Message.Ack j) rule = TermsBreak h asked passed (Message.Ack j) rule

-- Any message: its sender has nothing of this kind to send, or its end sends it after an ERROR, or it breaks a rule of its
-- kind.
abbrev pub MessageBreaks : Header → RequestParts → List Datagram → Dir → Message → Rule → Type 0
MessageBreaks h asked passed dir m rule =
    ((rule ≡ WrongKind) × IsWrongKind (author_of h.named dir) asked.side m)
    ⊎ ((rule ≡ AfterError) × GoesOn passed dir m)
    ⊎ KindBreaks h asked passed dir m rule
