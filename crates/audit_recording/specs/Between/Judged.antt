-- What a tap's judge stands for that was given each datagram of a capture, also after it refused one. Lists have the newest
-- first.
use Rattle.std.specs.Prelude.{◌≡◌, ◌⊎◌, List, ◌∷◌, ◌++◌, Option, Some, None, Result, Err}
use Rattle.tftp_packet.specs.{Rollover}
use Rattle.law_model.specs.Model.{Meaning}
use Rattle.law_tap.specs.{TapDatagram, TapSides, AreUnrolledBetween, BreaksNoTapRule}
use Rattle.audit_recording.specs.Between.Captured.{sides_by}
use Rattle.judge_tap.specs.{IsTapJudge, TapJudge, RefusesAtTap, IsTapVerdict, TapRefusal, Unlawful}
use Rattle.judge_tap.specs.declared.refusal.TapRefusal.TheVariants.{Memory}

-- Those before this one break no rule, and this one was refused.
pub record IsTapRefusedIn (s : TapSides) (given : List TapDatagram) (refusal : TapRefusal) : Type 0 where
  pub later : List TapDatagram
  pub datagram : TapDatagram
  pub earlier : List TapDatagram
  pub are : given ≡ later ++ datagram ∷ earlier
  pub lawful : BreaksNoTapRule s earlier
  pub refused : RefusesAtTap s earlier datagram refusal

-- It stands for all that it was given, or has refused one of them for good.
abbrev pub TappedBy : Option TapRefusal → TapJudge → TapSides → List TapDatagram → Type 0
TappedBy None j s given = IsTapJudge j s given
TappedBy (Some refusal) j s given = IsTapRefusedIn s given refusal

abbrev pub HasTapped : TapJudge → TapSides → List TapDatagram → Type 0
HasTapped j s given = TappedBy j.refused j s given

-- This holds of what the datagrams are taken for: themselves; or where numbers begin again after block 65535 (RFC 1350, section 5,
-- gives them two bytes and says no more), each with the block near in the place of its number.
abbrev pub HoldsBetween : Option Rollover → (TapSides → List TapDatagram → Type 0) → TapSides → List TapDatagram → Type 0
HoldsBetween None Holds s given = Holds s given
HoldsBetween (Some r) Holds s given = (taken : List TapDatagram) × AreUnrolledBetween r (sides_by (Some r) s) given taken × Holds (sides_by (Some r) s) taken

-- so it stands for what they are taken for, or has refused one of them for good
abbrev pub HasTappedBy : Option Rollover → TapJudge → TapSides → List TapDatagram → Type 0
HasTappedBy rollover j = HoldsBetween rollover (HasTapped j)

-- What there is to say of all that passed: the first datagram that breaks a rule, and whether that stands whatever is missing; else the verdict of the whole. Memory
-- was wanting for one of them, or in the end.
abbrev pub IsBetweenVerdict : TapSides → List TapDatagram → Result Meaning TapRefusal → Type 0
IsBetweenVerdict s given (Err (Unlawful index rule stands)) = IsTapRefusedIn s given (Unlawful index rule stands)
IsBetweenVerdict s given (Err (Memory count)) = IsTapRefusedIn s given (Memory count) ⊎ IsTapVerdict s given (Err (Memory count))
IsBetweenVerdict s given said = IsTapVerdict s given said

-- so it is said of what they are taken for
abbrev pub IsBetweenFoundBy : Option Rollover → TapSides → List TapDatagram → Result Meaning TapRefusal → Type 0
IsBetweenFoundBy rollover s given said = HoldsBetween rollover (λ k taken. IsBetweenVerdict k taken said) s given
