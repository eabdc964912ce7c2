-- What is certain between the ends, whatever is missing.
use Rattle.std.proofs.Common.{ℕ, List, ◌∷◌}
use Rattle.tftp_packet.specs.{End}
use Rattle.law_model.specs.Model.{Meaning, Deed, History}
use Rattle.law_tap.specs.Tap.{Pass, pass_of, tapped_at}
use Rattle.law_tap.specs.TapCapture.{TapDatagram, TapSides}
use Rattle.law_tap.specs.TapDress.{IsLawfulBetween}
use Rattle.law_tap.specs.Losses.{Loses, nothing, kept, lost, IsSeenOf}
use Rattle.law_tap.specs.LossesBetween.{IsTapViewWithLosses, IsLawfulBetweenWithLosses, IsCertainBetween}
use Rattle.law_tap.proofs.Beside.{view_is_tapped}
use Rattle.law_tap.proofs.Left.{loses_none, loses_more}

pub between_lossy : (s : TapSides) (tapped : List TapDatagram) → IsLawfulBetween s tapped → IsLawfulBetweenWithLosses s tapped
between_lossy s tapped lawful = record { all = tapped; lawful = lawful; left = loses_none tapped }

pub less_between_lossy : (s : TapSides) (tapped rest : List TapDatagram) → Loses TapDatagram tapped rest → IsLawfulBetweenWithLosses s tapped → IsLawfulBetweenWithLosses s rest
less_between_lossy s tapped rest l lossy = record { all = lossy.all; lawful = lossy.lawful; left = loses_more lossy.all tapped rest lossy.left l }

pub stays_between : (s : TapSides) (all earlier : List TapDatagram) (d : TapDatagram) → Loses TapDatagram all earlier → IsCertainBetween s earlier d → IsCertainBetween s all d
stays_between s all earlier d l certain = λ lossy. certain (less_between_lossy s (d ∷ all) (d ∷ earlier) (kept d all earlier l) lossy)

-- ---- what an end was seen to do

passes_left : (e : End) (all seen : History) → Loses Deed all seen → Loses Pass (tapped_at e all) (tapped_at e seen)
passes_left e _ _ nothing = nothing
passes_left e _ _ (kept d all seen l) = kept (pass_of e d) (tapped_at e all) (tapped_at e seen) (passes_left e all seen l)
passes_left e _ seen (lost d all seen' l) = lost (pass_of e d) (tapped_at e all) (tapped_at e seen) (passes_left e all seen l)

pub seen_passed : (m : Meaning) (wire : List ℕ) (e : End) (seen : History) → IsSeenOf m wire e seen → IsTapViewWithLosses m wire (tapped_at e seen)
seen_passed m wire e seen s = record { all = tapped_at e s.all; view = view_is_tapped m wire e s.all s.view; left = passes_left e s.all seen s.left }
