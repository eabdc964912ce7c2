use Rattle.tftp_normal.proofs.Shown.{shown, shows}
use Rattle.tftp_normal.proofs.laws.normal_capture_shows_its_meaning.Goals as goal

pub returns-clause-over_its_wire : goal.returns-clause-over_its_wire
returns-clause-over_its_wire c = shown

pub returns-clause-shows : goal.returns-clause-shows
returns-clause-shows c = shows
