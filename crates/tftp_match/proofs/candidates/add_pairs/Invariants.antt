use Rattle.std.proofs.Common.{◌≡◌, ◌++◌, ℕ, List, take}
use Rattle.tftp_match.specs.Candidates.{AreThose, HaveOne, numbers_in}
use Rattle.tftp_match.proofs.candidates.add_pairs.Given as goal

-- what was added is what there is of the servers so far
abbrev pub invariant-loop-server : goal.invariant-loop-server
invariant-loop-server l = (added : List (ℕ × ℕ)) × (l.pairs.items ≡ l.initial.pairs.items ++ added) × AreThose (λ server. HaveOne (l.client, server)) (λ server. numbers_in (l.client, server)) (take l.server-index l.servers) added
