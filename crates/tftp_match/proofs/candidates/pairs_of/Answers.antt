use Rattle.tftp_match.specs.Candidates.{nothing, with_each}
use Rattle.tftp_match.proofs.CandidatesLemmas.{made_more}
use Rattle.tftp_match.proofs.candidates.pairs_of.Goals as goal

pub loop-client-init : goal.loop-client-init
loop-client-init c = rw c.new-pairs.ensures.items nothing

pub loop-client-preserved : goal.loop-client-preserved
loop-client-preserved c =
    let added = c.in_ok-add_pairs.ensures in
    made_more (with_each c.args.servers.now) c.args.clients.now c.loop-client.client-index _ _ added.0 _ c.loop-client-test.true c.loop-client.invariant added.2 added.1
