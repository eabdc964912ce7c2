use Rattle.std.proofs.Common.{rules}
use Rattle.tftp_match.proofs.CandidatesLemmas.{among_found, among_more, among_none, among_nothing}
use Rattle.tftp_match.proofs.candidates.is_among.Goals as goal

pub returns-in_default : goal.returns-in_default
returns-in_default c = among_nothing c.args.payload.now c.args.others.now (rw c.in_default.is at c.in_ok-request.ensures)

pub returns-then-asks : goal.returns-then-asks
returns-then-asks c = among_found c.args.payload.now c.args.others.now c.loop-other.other-index _ c.in-Some.request c.loop-other-test.true (rw c.in-Some.is at c.in_ok-request.ensures) (c.asks.ensures.0 c.if-asks.true)

pub loop-other-init : goal.loop-other-init
loop-other-init c k x within = search rules

pub loop-other-preserved : goal.loop-other-preserved
loop-other-preserved c = among_more c.args.payload.now c.args.others.now c.loop-other.other-index _ c.in-Some.request c.asks.result c.loop-other-test.true (rw c.in-Some.is at c.in_ok-request.ensures) c.if-asks.false c.asks.ensures c.loop-other.invariant

pub returns : goal.returns
returns c = among_none c.args.payload.now c.args.others.now c.loop-other.other-index c.loop-other-test.false c.loop-other.invariant
