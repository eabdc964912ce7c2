-- What a judge stands for that was given each datagram of a capture, also after it refused one. Lists have the newest first.
use Rattle.std.specs.Prelude.{◌≡◌, ◌⊎◌, ◌^◌, ◌≤◌, ℕ, List, ◌∷◌, ◌++◌, All, length, reverse, Option, Some, None, Result, Ok, Err}
use Rattle.tftp_capture.specs.{IsLawful, IsPort, text_with_hosts}
use Rattle.tftp_packet.specs.{Rollover}
use Rattle.tftp_packet.specs.Hosts.{Datagram, Header}
use Rattle.law_model.specs.Model.{Meaning}
use Rattle.law_end.specs.{OneEnded}
use Rattle.law_rollover.specs.{AreUnrolled}
use Rattle.tftp_judge.specs.{Refuses, IsJudgeAfter, Judge, IsSaidBy, IsTextVerdictBy, IsVerdict, Refusal, Verdict, Refused, header_by}
use Rattle.tftp_judge.specs.declared.refusal.Refusal.TheVariants.{Memory}

-- Those before this one break no rule, and this one was refused.
pub record IsRefusedIn (h : Header) (given : List Datagram) (refusal : Refusal) : Type 0 where
  pub later : List Datagram
  pub datagram : Datagram
  pub earlier : List Datagram
  pub are : given ≡ later ++ datagram ∷ earlier
  pub lawful : OneEnded h earlier
  pub refused : Refuses h earlier datagram refusal

-- It stands for all that it was given, or has refused one of them for good.
abbrev pub JudgedBy : Option Refusal → Judge → Header → List Datagram → Type 0
JudgedBy None j h given = IsJudgeAfter j h given
JudgedBy (Some refusal) j h given = IsRefusedIn h given refusal

abbrev pub HasJudged : Judge → Header → List Datagram → Type 0
HasJudged j h given = JudgedBy j.refused j h given

-- This holds of what the datagrams are taken for: themselves; or where numbers begin again after block 65535, each with the block
-- near in the place of its number.
abbrev pub HoldsOf : Option Rollover → (Header → List Datagram → Type 0) → Header → List Datagram → Type 0
HoldsOf None Holds h given = Holds h given
HoldsOf (Some r) Holds h given = (taken : List Datagram) × AreUnrolled r (header_by (Some r) h) given taken × Holds (header_by (Some r) h) taken

-- so it stands for what they are taken for
abbrev pub HasJudgedBy : Option Rollover → Judge → Header → List Datagram → Type 0
HasJudgedBy rollover j = HoldsOf rollover (HasJudged j)

-- By this rollover it stands for some datagrams of a text, unless it has refused one.
abbrev pub StandsBy : Option Rollover → Judge → Type 0
StandsBy rollover j = j.refused ≡ None → (h : Header) × (given : List Datagram) × (h.rollover ≡ None) × HasJudgedBy rollover j h given

-- what is said of datagrams, as it is said of a text
abbrev pub of_text : Result Meaning Refusal → Result Meaning Verdict
of_text (Ok m) = Ok m
of_text (Err refusal) = Err (Refused refusal)

-- the datagrams can be written, the oldest first, with their hosts
pub record AreWritten (h : Header) (given : List Datagram) : Type 0 where
  pub service : IsPort h.service
  pub plain : h.rollover ≡ None
  pub lawful : All IsLawful (reverse given)
  pub short : length (text_with_hosts h (reverse given)) ≤ 2 ^ 40

-- What is said of the datagrams is the verdict on what they are taken for; and it is that of the text which has just them, by the same
-- rollover.
pub record IsJudgedBy (rollover : Option Rollover) (h : Header) (given : List Datagram) (said : Result Meaning Refusal) : Type 0 where
  pub verdict : IsSaidBy rollover said h (reverse given)
  pub text : AreWritten h given → IsTextVerdictBy rollover (text_with_hosts h (reverse given)) (of_text said)

-- Memory ran out: for one of them, which takes some where those before it break no rule; or in the end, of a whole transfer.
abbrev pub IsWanting : Option Rollover → Header → List Datagram → ℕ → Type 0
IsWanting rollover h given count = HoldsOf rollover (λ k taken. IsRefusedIn k taken (Memory count) ⊎ IsVerdict k (reverse taken) (Err (Memory count))) h given

-- so it is judged, or memory ran out so
abbrev pub IsFoundBy : Option Rollover → Header → List Datagram → Result Meaning Refusal → Type 0
IsFoundBy rollover h given (Err (Memory count)) = IsWanting rollover h given count
IsFoundBy rollover h given said = IsJudgedBy rollover h given said

-- the same where blocks go up to 65535
abbrev pub IsJudged : Header → List Datagram → Result Meaning Refusal → Type 0
IsJudged = IsJudgedBy None

abbrev pub IsJudgedWith : Header → List Datagram → Result Meaning Refusal → Type 0
IsJudgedWith = IsFoundBy None
