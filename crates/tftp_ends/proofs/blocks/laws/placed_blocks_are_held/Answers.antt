use Rattle.tftp_ends.proofs.BlocksLemmas.Stores.{placed_is_held, others_are_kept}
use Rattle.tftp_ends.proofs.blocks.laws.placed_blocks_are_held.Goals as goal

pub returns-clause-held : goal.returns-clause-held
returns-clause-held c = placed_is_held

pub returns-clause-others : goal.returns-clause-others
returns-clause-others c = others_are_kept
