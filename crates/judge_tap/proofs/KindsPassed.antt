-- Which kinds of message have passed, after one more.
use Rattle.std.proofs.Common.{◌⊎◌, List, ◌∷◌, inl, inr, subst}
use Rattle.tftp_packet.specs.{Message, Spells}
use Rattle.law_end.proofs.Spelled.{spelled_once}
use Rattle.law_end.proofs.Division.Divided.{any_cases, any_first, any_later}
use Rattle.law_tap.specs.{TapDatagram, HasKind, Says}

module _ (Kind : Message → Type 0) (passed : List TapDatagram) (d : TapDatagram) (m : Message) (says : Spells d.payload m) where
  pub kind_now : Kind m → HasKind Kind (d ∷ passed)
  kind_now is = any_first (Says Kind) d passed (m, says, is)

  pub kind_before : HasKind Kind passed → HasKind Kind (d ∷ passed)
  kind_before has = any_later (Says Kind) d passed has

  pub kind_cases : HasKind Kind (d ∷ passed) → Kind m ⊎ HasKind Kind passed
  kind_cases has = elim (any_cases (Says Kind) d passed has) [
    | inl (n, t, is) ↦ inl (subst Kind (spelled_once d.payload n m t says) is)
    | inr before ↦ inr before
  ]
