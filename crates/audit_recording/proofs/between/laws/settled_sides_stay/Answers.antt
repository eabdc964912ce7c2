use Rattle.audit_recording.proofs.BetweenLemmas.Settling.{sides_stay}
use Rattle.audit_recording.proofs.between.laws.settled_sides_stay.Goals as goal

pub returns : goal.returns
returns c = sides_stay
