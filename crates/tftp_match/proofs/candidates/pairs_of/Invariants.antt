use Rattle.std.proofs.Common.{flat_map, take}
use Rattle.tftp_match.specs.Candidates.{AreThose, HaveOne, numbers_in, with_each}
use Rattle.tftp_match.proofs.candidates.pairs_of.Given as goal

-- what was found is what there is of the clients so far
abbrev pub invariant-loop-client : goal.invariant-loop-client
invariant-loop-client l = AreThose HaveOne numbers_in (flat_map (with_each l.servers) (take l.client-index l.clients)) l.pairs.items
