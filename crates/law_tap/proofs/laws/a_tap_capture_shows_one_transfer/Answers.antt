use Rattle.law_tap.proofs.TapOne.{shows_one}
use Rattle.law_tap.proofs.laws.a_tap_capture_shows_one_transfer.Goals as goal

pub returns : goal.returns
returns c = shows_one
