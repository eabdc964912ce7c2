use Rattle.std.proofs.Common.{sym, ◌∙◌}
use Rattle.std.proofs.lemmas.Bool.{false≢true}
use Rattle.std.proofs.lemmas.List.{take_all}
use Rattle.tftp_match.specs.Candidates.{nothing}
use Rattle.tftp_match.proofs.CandidatesLemmas.{one_more, other_more}
use Rattle.tftp_match.proofs.candidates.matching.Goals.{then-branch+in_ok-push, else-branch}
use Rattle.tftp_match.proofs.candidates.matching.Goals as goal

pub loop-asked-init : goal.loop-asked-init
loop-asked-init c = rw c.new-numbers.ensures.items nothing

pub loop-asked-preserved : goal.loop-asked-preserved
loop-asked-preserved c =
    let is = c.in_ok-is_meant.ensures in
    elim c.if-branch.branch [
      | then-branch+in_ok-push w ↦ rw w.numbers-is (rw w.in_ok-push.ensures.items (one_more c.args.own.now c.loop-asked.asked-index _ c.loop-asked.numbers.items c.loop-asked-test.true (is.0 w.if-branch.true) c.loop-asked.invariant))
      | else-branch w ↦ rw w.numbers-is (other_more c.args.own.now c.loop-asked.asked-index _ c.loop-asked.numbers.items c.loop-asked-test.true (λ h. false≢true (sym w.if-branch.false ∙ is.1 h)) c.loop-asked.invariant)
    ]

pub returns : goal.returns
returns c = rw (take_all _ c.args.own.now c.loop-asked-test.false) at c.loop-asked.invariant
