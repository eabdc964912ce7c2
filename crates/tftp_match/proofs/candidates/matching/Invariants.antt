use Rattle.std.proofs.Common.{take}
use Rattle.tftp_match.specs.Candidates.{AreThose, IsMeant}
use Rattle.tftp_match.proofs.candidates.matching.Given as goal

-- what was found is what there is of those so far
abbrev pub invariant-loop-asked : goal.invariant-loop-asked
invariant-loop-asked l = AreThose (λ asked. IsMeant l.own l.others asked.payload.now) (λ asked. asked.number) (take l.asked-index l.own) l.numbers.items
