use Rattle.tftp_ends.proofs.BlocksLemmas.Kept.{nothing_kept}
use Rattle.tftp_ends.proofs.blocks.map_delivered.MapDeliveredDelivered.new.Goals as goal

pub invariant_of-result : goal.invariant_of-result
invariant_of-result c = rw c.new.ensures.empty (nothing_kept c.args.blksize c.args.windowsize c.requires.windowsize)
