use Rattle.law_model.proofs.ModelLemmas.Wires.{same_wire}
use Rattle.law_model.proofs.model.laws.blocks_make_the_wire.Goals as goal

pub returns : goal.returns
returns c = same_wire
