use Rattle.audit_spared.proofs.FinalityLemmas.Silent.{silent_is_final}
use Rattle.audit_spared.proofs.finality.laws.a_silent_transfer_is_final.Goals as goal

pub returns : goal.returns
returns c = record { stays = silent_is_final }
