use Rattle.audit_cleared.proofs.Staying.{stays}
use Rattle.audit_cleared.proofs.standing.an_accusation_stays.Goals as goal

pub returns : goal.returns
returns c = stays
