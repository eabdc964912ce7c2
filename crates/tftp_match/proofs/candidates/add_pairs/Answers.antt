use Rattle.std.proofs.Common.{[], append-nil, sym, ◌∙◌}
use Rattle.std.proofs.lemmas.Bool.{false≢true}
use Rattle.std.proofs.lemmas.List.{take_all}
use Rattle.tftp_match.specs.Candidates.{nothing}
use Rattle.tftp_match.proofs.CandidatesLemmas.{asked_again, none_has, other_more, pushed_more, those_mapped}
use Rattle.tftp_match.proofs.candidates.add_pairs.Goals.{then-asks+in_ok-push, else-asks}
use Rattle.tftp_match.proofs.candidates.add_pairs.Goals as goal

pub returns-in_default : goal.returns-in_default
returns-in_default c = ([], sym (append-nil _), those_mapped _ (none_has _ (λ server h. (rw c.in_default.is at c.in_ok-request.ensures) h.request h.spelled)))

pub loop-server-init : goal.loop-server-init
loop-server-init c = ([], sym (append-nil _), nothing)

pub loop-server-preserved : goal.loop-server-preserved
loop-server-preserved c =
    let inv = c.loop-server.invariant in
    let spells = rw c.in-Some.is at c.in_ok-request.ensures in
    elim c.if-asks.branch [
      | then-asks+in_ok-push w ↦ rw w.pairs-is (pushed_more c.args.servers.now c.loop-server.server-index _ _ _ _ inv.0 w.in_ok-push.ensures.items inv.1 c.loop-server-test.true (record { request = c.in-Some.request; spelled = spells; again = c.asks.ensures.0 w.if-asks.true }) inv.2)
      | else-asks w ↦ (inv.0, rw w.pairs-is inv.1, other_more c.args.servers.now c.loop-server.server-index _ inv.0 c.loop-server-test.true (λ h. false≢true (sym w.if-asks.false ∙ c.asks.ensures.1 (asked_again _ _ c.in-Some.request spells h))) inv.2)
    ]

pub returns : goal.returns
returns c = let inv = c.loop-server.invariant in (inv.0, inv.1, those_mapped _ (rw (take_all _ c.args.servers.now c.loop-server-test.false) at inv.2))
