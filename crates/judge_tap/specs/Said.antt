-- What was said between the two ends of a transfer, where the recorder may have missed some of it, and what is kept of that. The
-- list `earlier` has the datagrams that were recorded, the newest first.
use Rattle.std.specs.Prelude.{◌≡◌, ◌↔◌, ◌≤◌, ℕ, zero, suc, Bool, true, List, Option, Some, None, Result, Ok, Err}
use Rattle.std.specs.Coded.{Coded, coded_ℕ, coded_list}
use Rattle.std.specs.FinMap as map
use Rattle.tftp_packet.specs.{Message, OptionMap, RequestParts, End, Client, Server}
use Rattle.tftp_ends.specs.Blocks.{Held}
use Rattle.law_model.specs.Model.Roles.{sender_of}
use Rattle.law_model.specs.{EndRule}
use Rattle.law_end.specs.{Rule}
use Rattle.law_end.specs.declared.rule.Rule.TheVariants as rule
use Rattle.tftp_packet.specs.{Rollover}
use Rattle.law_tap.specs.{TapDatagram, TapSides, AreFigures, Figures, IsFair, IsSaid, LossyBreaks}
use Rattle.tftp_judge.specs.declared.pass_error.PassError.{PassError}
use Rattle.tftp_judge.specs.declared.pass_error.PassError.TheVariants.{Broken as Breaks, Memory}

-- ---- what is kept

-- the code of blocks by their numbers
abbrev pub blocks_code : Coded Held
blocks_code = map.code coded_ℕ (coded_list coded_ℕ)

-- the number of an ERROR, and its message (RFC 1350, section 5)
abbrev pub SaidError : Type 0
SaidError = ℕ × List ℕ

-- the ERROR of each end
pub record SaidErrors : Type 0 where
  pub client : Option SaidError
  pub server : Option SaidError

abbrev pub error_of : SaidErrors → End → Option SaidError
error_of errors Client = errors.client
error_of errors Server = errors.server

pub record SaidNotes : Type 0 where
  pub rollover : Option Rollover  -- what comes after block 65535, where anything does
  pub asked : RequestParts  -- the request
  pub figures : Figures  -- of the numbers of blocks and ACKs
  pub offered : Option OptionMap  -- what the OACK agrees to, if one was seen
  pub blocks : Held
  pub errors : SaidErrors

-- ---- what it stands for

-- no OACK was said; or one that may answer the request, and no other
abbrev pub IsOfferSaid : TapSides → List TapDatagram → RequestParts → Option OptionMap → Type 0
IsOfferSaid s earlier asked None = (e : End) (options : OptionMap) → IsSaid s earlier e (Message.Oack options) → ⊥
IsOfferSaid s earlier asked (Some agreed) =
    IsFair s.rollover asked agreed × IsSaid s earlier Server (Message.Oack agreed)
    × ((e : End) (options : OptionMap) → IsSaid s earlier e (Message.Oack options) → options ≡ agreed)

-- the end said no ERROR; or this one, and no other
abbrev pub IsErrorSaid : TapSides → List TapDatagram → End → Option SaidError → Type 0
IsErrorSaid s earlier e None = (code : ℕ) (text : List ℕ) → IsSaid s earlier e (Message.Error code text) → ⊥
IsErrorSaid s earlier e (Some first) =
    IsSaid s earlier e (Message.Error first.0 first.1)
    × ((code : ℕ) (text : List ℕ) → IsSaid s earlier e (Message.Error code text) → (code ≡ first.0) × (text ≡ first.1))

-- The notes are those of all that was said.
pub record AreSaidNotes (n : SaidNotes) (s : TapSides) (earlier : List TapDatagram) : Type 0 where
  pub rollover : n.rollover ≡ s.rollover
  pub request : IsSaid s earlier Client (Message.Request n.asked)
  pub one_request : (now : RequestParts) → IsSaid s earlier Client (Message.Request now) → now ≡ n.asked
  pub figures : AreFigures n.figures s earlier
  pub from_one : (e : End) (k : ℕ) (bytes : List ℕ) → IsSaid s earlier e (Message.Data k bytes) → 1 ≤ k
  pub offered : IsOfferSaid s earlier n.asked n.offered
  pub kept : (e : End) (k : ℕ) (bytes : List ℕ) → IsSaid s earlier e (Message.Data k bytes) → map.get n.blocks k ≡ Some bytes
  pub said : (k : ℕ) (bytes : List ℕ) → map.get n.blocks k ≡ Some bytes → IsSaid s earlier (sender_of n.asked.side) (Message.Data k bytes)
  pub errors : (e : End) → IsErrorSaid s earlier e (error_of n.errors e)

-- ---- one message more

-- the rule of an ACK that nothing explains (RFC 1350, section 5; RFC 2347)
abbrev pub ack_broken : ℕ → Rule
ack_broken zero = rule.Block EndRule.AckZero
ack_broken (suc k) = rule.Block EndRule.AckAhead

-- the ERROR after this one, where it is the first, and whether it is the same as the one before
abbrev pub IsErrorPut : Option SaidError → SaidError → Option SaidError → Bool → Type 0
IsErrorPut None now after same = (after ≡ Some now) × (same ≡ true)
IsErrorPut (Some first) now after same = (after ≡ Some first) × ((same ≡ true) ↔ (now ≡ first))

-- Memory is taken for the first request, the first OACK, a block of which none with its number was said, and the first ERROR of an
-- end.
abbrev pub IsNewlySaid : TapSides → List TapDatagram → End → Message → Type 0
IsNewlySaid s earlier e (Message.Request asked) = (other : RequestParts) → IsSaid s earlier e (Message.Request other) → ⊥
IsNewlySaid s earlier e (Message.Oack options) = (other : OptionMap) → IsSaid s earlier e (Message.Oack other) → ⊥
IsNewlySaid s earlier e (Message.Data k bytes) = (other : List ℕ) → IsSaid s earlier e (Message.Data k other) → ⊥
IsNewlySaid s earlier e (Message.Error code text) = (other : ℕ) (words : List ℕ) → IsSaid s earlier e (Message.Error other words) → ⊥
IsNewlySaid s earlier e (Message.Ack k) = ⊥

-- What is found of a message after a request that was seen: it breaks no rule with losses, or this one; or memory is wanting.
abbrev pub FindsSaid : TapSides → List TapDatagram → TapDatagram → RequestParts → End → Message → Type 0 → Result (Unit {0}) PassError → Type 0
FindsSaid s earlier d asked e m After (Ok _) = ((broken : Rule) → LossyBreaks s earlier d asked e m broken → ⊥) × After
FindsSaid s earlier d asked e m After (Err (Breaks broken)) = LossyBreaks s earlier d asked e m broken
FindsSaid s earlier d asked e m After (Err Memory) = IsNewlySaid s earlier e m
