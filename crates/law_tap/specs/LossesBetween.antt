-- What passed a point between the two ends, where the recorder may have missed some of it. Lists have the newest first.
use Rattle.std.specs.Prelude.{ℕ, List, [], ◌∷◌}
use Rattle.law_model.specs.Model.{Meaning, HasSent, Step, view_of, IsRun}
use Rattle.law_tap.specs.Tap.{Pass, IsTapView}
use Rattle.law_tap.specs.TapCapture.{TapDatagram, TapSides}
use Rattle.law_tap.specs.TapDress.{IsLawfulBetween}
use Rattle.law_tap.specs.Losses.{Loses}

-- this passed in some run, and perhaps more
pub record IsTapViewWithLosses (m : Meaning) (wire : List ℕ) (seen : List Pass) : Type 0 where
  pub all : List Pass
  pub view : IsTapView m wire all
  pub left : Loses Pass all seen

-- each was sent by its end in these steps, early or late
abbrev pub AllSent : List Step → List Pass → Type 0
AllSent steps [] = Unit {0}
AllSent steps (x ∷ seen) = HasSent (view_of x.from steps) x.packet × AllSent steps seen

-- the two ends send all of it in one run
abbrev pub IsSentInOneRun : Meaning → List ℕ → List Pass → Type 0
IsSentInOneRun m wire seen = (steps : List Step) × IsRun m wire steps × AllSent steps seen

-- Datagrams that were recorded between the ends are lawful with losses if some lawful list has them in their order.
pub record IsLawfulBetweenWithLosses (s : TapSides) (tapped : List TapDatagram) : Type 0 where
  pub all : List TapDatagram
  pub lawful : IsLawfulBetween s all
  pub left : Loses TapDatagram all tapped

-- With this datagram the earlier ones are not lawful with losses: whatever is missing, something in them is unlawful.
abbrev pub IsCertainBetween : TapSides → List TapDatagram → TapDatagram → Type 0
IsCertainBetween s earlier d = IsLawfulBetweenWithLosses s (d ∷ earlier) → ⊥
