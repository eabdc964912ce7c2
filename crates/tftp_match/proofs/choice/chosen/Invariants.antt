use Rattle.std.proofs.Common.{◌≡◌, take}
use Rattle.tftp_match.specs.Choice.{matched_in}
use Rattle.tftp_match.proofs.ChoiceLemmas.{listed}
use Rattle.tftp_match.proofs.choice.chosen.Given as goal

-- what was found is all that goes together of the pairs before
abbrev pub invariant-loop-one : goal.invariant-loop-one
invariant-loop-one l = matched_in (take l.one-index l.tried) ≡ listed l.found
