use Rattle.tftp_match.proofs.CandidatesLemmas.{asks_same, asks_none}
use Rattle.tftp_match.proofs.candidates.asks.Goals as goal

pub returns-in-Some : goal.returns-in-Some
returns-in-Some c = asks_same c.args.payload.now c.in-Some.view c.args.request.now c.same_request.result (rw c.in-Some.is at c.view_in.ensures) c.same_request.ensures

pub returns-in-None : goal.returns-in-None
returns-in-None c = asks_none c.args.payload.now c.args.request.now (rw c.in-None.is at c.view_in.ensures)
