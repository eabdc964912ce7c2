use Rattle.law_tap.proofs.Beside.{view_is_tapped}
use Rattle.law_tap.proofs.laws.what_an_end_sees_is_tapped.Goals as goal

pub returns : goal.returns
returns c = view_is_tapped
