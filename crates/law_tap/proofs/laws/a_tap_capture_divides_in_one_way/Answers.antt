use Rattle.law_tap.proofs.OneTapDivision.{one_division, labels_some}
use Rattle.law_tap.proofs.laws.a_tap_capture_divides_in_one_way.Goals as goal

pub returns : goal.returns
returns c = record { one = λ s x y apart. one_division s apart x y; of_run = labels_some }
