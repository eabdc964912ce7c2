use Rattle.audit_recording.proofs.BetweenLemmas.Holding.{passes_by}
use Rattle.audit_recording.proofs.between.laws.what_is_not_of_a_transfer_changes_nothing.Goals as goal

pub returns : goal.returns
returns c = passes_by
