use Rattle.std.proofs.lemmas.List.{take_all}
use Rattle.tftp_match.specs.Choice.{nothing}
use Rattle.tftp_match.proofs.ChoiceLemmas.{tried_more}
use Rattle.tftp_match.proofs.choosing.try_pairs.Goals as goal

pub loop-pair-init : goal.loop-pair-init
loop-pair-init g c = rw c.new-tried.ensures.items nothing

pub loop-pair-preserved : goal.loop-pair-preserved
loop-pair-preserved g c = tried_more _ c.args.pairs.now c.loop-pair.pair-index _ c.loop-pair.tried.items _ _ c.loop-pair-test.true c.loop-pair.invariant c.in_ok-one.ensures.tried c.in_ok-add.ensures.added

pub returns-clause-tried : goal.returns-clause-tried
returns-clause-tried g c = rw (take_all _ c.args.pairs.now c.loop-pair-test.false) at c.loop-pair.invariant
