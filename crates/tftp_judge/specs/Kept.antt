-- What the judge keeps of the datagrams that it has accepted, and for which datagrams that stands. The lists `earlier` and
-- `passed` have the datagrams of the capture and those of the transfer, the newest first.
use Rattle.std.specs.Prelude.{◌≡◌, ◌⊎◌, ◌↔◌, ◌≤◌, ℕ, Bool, true, List, [], All, length, Option, Some, None, is_some, ⊤}
use Rattle.tftp_packet.specs.{OptionMap, Message, RequestParts, Spells, End}
use Rattle.tftp_packet.specs.Hosts.{Datagram, Header}
use Rattle.tftp_packet.specs.{Dir, In, Out}
use Rattle.tftp_packet.specs.{Rollover}
use Rattle.tftp_ends.specs.{KnownIds, StandsFor, NamedEnd, terms_of, IsEndAfter, has_stopped, IsBeforeBlocks}
use Rattle.law_model.specs.Rules.{transfer_of, Passed}
use Rattle.law_end.specs.{IsErrorBy, IsFirstError, AckSent, BlockSent, OneEnded, Answer, Agrees, Begins, FirstAnswer, FirstAsked, NotAnswered, terms_after, AbortedBy}
use Rattle.tftp_judge.specs.declared.refusal.Refusal.{Refusal}

-- ---- ERRORs

-- the code and the message of an ERROR
abbrev pub ErrorText : Type 0
ErrorText = ℕ × List ℕ

pub record Errors : Type 0 where
  pub sent : Option ErrorText  -- the one that went out, whenever
  pub heard : Option ErrorText  -- the one that came in
  pub first : Option (AbortedBy × ℕ)  -- whose the first was, and its code

-- every ERROR that went this way is this one, and it did go; or none did
abbrev pub IsErrorOf : Dir → List Datagram → Option ErrorText → Type 0
IsErrorOf dir passed None = (code : ℕ) (text : List ℕ) → Passed dir (Message.Error code text) passed → ⊥
IsErrorOf dir passed (Some error) =
    Passed dir (Message.Error error.0 error.1) passed
    × ((code : ℕ) (text : List ℕ) → Passed dir (Message.Error code text) passed → (code ≡ error.0) × (text ≡ error.1))

pub record AreErrors (errors : Errors) (passed : List Datagram) : Type 0 where
  pub sent : IsErrorOf Out passed errors.sent
  pub heard : IsErrorOf In passed errors.heard
  pub first : IsFirstError IsErrorBy passed errors.first
  pub stopped : has_stopped passed ≡ is_some errors.heard

-- ---- the transfer

-- how the request was answered, and the end that began with it: not yet, without an OACK, or by an OACK
pub data Exchange : Type 0 where
  Unanswered : Exchange
  Begun : (end : NamedEnd) → Exchange
  Agreed : (options : OptionMap) (end : NamedEnd) → Exchange

pub record Transfer : Type 0 where
  pub named : End
  pub rollover : Option Rollover  -- what comes after block 65535, where anything does
  pub asked : RequestParts  -- the first request
  pub exchange : Exchange
  pub block_sent : Bool  -- the named end has sent a block
  pub ack_sent : Bool  -- it has sent an ACK
  pub errors : Errors

-- the answer is the first one, and the end that began with it stands for these datagrams
pub record HasBegun (h : Header) (asked : RequestParts) (passed : List Datagram) (answer : Answer) (end : NamedEnd) : Type 0 where
  pub answered : FirstAnswer asked.side passed answer
  pub terms : terms_of end ≡ terms_after h asked answer
  pub after : IsEndAfter end passed

abbrev pub IsExchange : Header → RequestParts → List Datagram → Exchange → Type 0
IsExchange h asked passed Unanswered = NotAnswered asked.side passed × IsBeforeBlocks passed
IsExchange h asked passed (Begun end) = HasBegun h asked passed Begins end
IsExchange h asked passed (Agreed options end) = HasBegun h asked passed (Agrees options) end

-- The transfer stands for these datagrams of it.
pub record IsTransferAfter (t : Transfer) (h : Header) (passed : List Datagram) : Type 0 where
  pub named : t.named ≡ h.named
  pub rollover : t.rollover ≡ h.rollover
  pub exchange : IsExchange h t.asked passed t.exchange
  pub block_sent : (t.block_sent ≡ true) ↔ BlockSent passed
  pub ack_sent : (t.ack_sent ≡ true) ↔ AckSent passed
  pub errors : AreErrors t.errors passed

-- The datagrams break no rule, each payload goes into a packet of UDP, and the transfer is that of them.
pub record IsTransferOf (t : Transfer) (h : Header) (earlier : List Datagram) : Type 0 where
  pub lawful : OneEnded h earlier
  pub short : All (λ (d : Datagram). length d.payload ≤ 65527) earlier
  pub asked : FirstAsked h earlier t.asked
  pub after : IsTransferAfter t h (transfer_of h earlier)

-- ---- the judge

pub record JudgeState : Type 0 where
  pub header : Header
  pub ports : KnownIds
  pub transfer : Option Transfer  -- from the first request on
  pub of_transfer : Bool  -- the last datagram that passed its ports was of the transfer

pub record Judge : Type 0 where
  pub state : JudgeState
  pub fed : ℕ
  pub refused : Option Refusal  -- what is answered for good

-- no datagram has passed; or the first request has, and the transfer stands for those of it
abbrev pub IsKept : Header → List Datagram → Option Transfer → Type 0
IsKept h earlier None = earlier ≡ []
IsKept h earlier (Some transfer) = FirstAsked h earlier transfer.asked × IsTransferAfter transfer h (transfer_of h earlier)

-- these bytes spell the first request, once it has passed
abbrev pub AreBytesOf : List ℕ → Option Transfer → Type 0
AreBytesOf bytes None = ⊤
AreBytesOf bytes (Some transfer) = Spells bytes (Message.Request transfer.asked)

-- these bytes spell the first OACK, unless none are kept
abbrev pub AreOackBytes : List ℕ → OptionMap → Type 0
AreOackBytes bytes options = (bytes ≡ []) ⊎ Spells bytes (Message.Oack options)

-- what is kept of these datagrams
pub record HasKept (k : JudgeState) (h : Header) (earlier : List Datagram) : Type 0 where
  pub header : k.header ≡ h
  pub ports : StandsFor k.ports h earlier
  pub kept : IsKept h earlier k.transfer

-- The judge stands for these datagrams: it has accepted them, and has refused none. Each payload goes into a packet of UDP.
pub record IsJudgeAfter (j : Judge) (h : Header) (earlier : List Datagram) : Type 0 where
  pub lawful : OneEnded h earlier
  pub short : All (λ (d : Datagram). length d.payload ≤ 65527) earlier
  pub has_kept : HasKept j.state h earlier
  pub fed : j.fed ≡ length earlier
  pub goes_on : j.refused ≡ None

-- there are datagrams for which the judge stands, unless it has refused one
abbrev pub StandsForSome : Judge → Type 0
StandsForSome j = j.refused ≡ None → (h : Header) × (earlier : List Datagram) × IsJudgeAfter j h earlier
