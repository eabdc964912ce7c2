use Rattle.law_tap.proofs.WorkedTap.{read_shown, read_passes}
use Rattle.law_tap.proofs.worked.read_between_is_shown.Goals as goal

pub returns : goal.returns
returns c = record { shown = read_shown; rules = read_passes }
