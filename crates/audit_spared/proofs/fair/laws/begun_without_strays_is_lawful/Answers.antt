use Rattle.audit_spared.proofs.FairLemmas.LeftOut.{begun_without}
use Rattle.audit_spared.proofs.fair.laws.begun_without_strays_is_lawful.Goals as goal

pub returns : goal.returns
returns c = begun_without
