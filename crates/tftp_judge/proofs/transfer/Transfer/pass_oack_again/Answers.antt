use Rattle.std.proofs.Common.{◌≡◌, List, true≢false, sym, subst, ap, rules, ◌∙◌}
use Rattle.std.proofs.lemmas.Bool.{false≢true}
use Rattle.tftp_packet.specs.{End, Client}
use Rattle.tftp_packet.specs.Hosts.{Datagram, Header}
use Rattle.tftp_packet.specs.{Out}
use Rattle.law_model.specs.Rules.{author_of}
use Rattle.tftp_judge.specs.{Errors, AreErrors, Transfer, IsTransferAfter}
use Rattle.tftp_judge.proofs.MessageFound.{oack_again_ended, oack_again_goes, oack_again_late, oack_again_passes}
use Rattle.tftp_judge.proofs.StaysAfter.{agreed_first, transfer_with_oack_again}
use Rattle.tftp_judge.proofs.transfer.Transfer.pass_oack_again.Given.{Over}
use Rattle.tftp_judge.proofs.transfer.Transfer.pass_oack_again.Goals.{Else-eq}
use Rattle.tftp_judge.proofs.transfer.Transfer.pass_oack_again.Goals as goal

-- the server sends it
other : (g : Over) (c : Else-eq g) (h : Header) (passed : List Datagram) → IsTransferAfter c.args.self.now h passed → author_of h.named c.args.dir ≡ Client → ⊥
other g c h passed after client =
    let author : c.author_of.result ≡ Client = c.author_of.ensures ∙ ap (λ (n : End). author_of n c.args.dir) (ap (λ (t : Transfer). t.named) c.self.view_is ∙ after.named) ∙ client in
    false≢true (rw author at c.if-eq.ensures)

errors : (g : Over) (c : Else-eq g) (h : Header) (passed : List Datagram) → IsTransferAfter c.args.self.now h passed → AreErrors c.self.inside.errors passed
errors g c h passed after = subst (λ (e : Errors). AreErrors e passed) (sym (ap (λ (t : Transfer). t.errors) c.self.view_is)) after.errors

pub returns-then-ne-clause-finds : goal.returns-then-ne-clause-finds
returns-then-ne-clause-finds g c = λ h passed d given after agreed says.
    let t = c.args.self.now in
    let server = other g (goal.at.returns-then-ne-clause-finds g c).Else-eq h passed after in
    let first = agreed_first h t.asked passed t.exchange given agreed after.exchange in
    let not_out : c.args.dir ≡ Out → ⊥ = λ out. true≢false (rw out at c.if-ne.ensures) in (
      oack_again_passes h t.asked passed c.args.dir given server first (oack_again_goes h t.asked passed c.args.dir given server (λ out stop. not_out out)) (λ late. not_out late.0),
      transfer_with_oack_again t h passed d given agreed after says.1,
    )

pub returns-then-has_stopped-clause-finds : goal.returns-then-has_stopped-clause-finds
returns-then-has_stopped-clause-finds g c = λ h passed d given after agreed says.
    let t = c.args.self.now in
    let at = (goal.at.returns-then-has_stopped-clause-finds g c).Else-eq in
    oack_again_ended h t.asked passed c.args.dir given (other g at h passed after) (search rules) ((c.has_gone_out-has_stopped.ensures passed (errors g at h passed after)).0 c.if-has_stopped.true)

pub returns-then-late_oack-clause-finds : goal.returns-then-late_oack-clause-finds
returns-then-late_oack-clause-finds g c = λ h passed d given after agreed says.
    let t = c.args.self.now in
    let at = (goal.at.returns-then-late_oack-clause-finds g c).Else-eq in
    let server = other g at h passed after in
    let first = agreed_first h t.asked passed t.exchange given agreed after.exchange in
    let stays = oack_again_goes h t.asked passed c.args.dir given server (λ out stop. false≢true (sym c.if-has_stopped.false ∙ (c.has_gone_out-has_stopped.ensures passed (errors g at h passed after)).1 stop)) in
    oack_again_late h t.asked passed c.args.dir given server first stays ((c.late_oack.ensures h passed after).0 c.if-late_oack.true)

pub returns-clause-finds : goal.returns-clause-finds
returns-clause-finds g c = λ h passed d given after agreed says.
    let t = c.args.self.now in
    let at = (goal.at.returns-clause-finds g c).Else-eq in
    let server = other g at h passed after in
    let first = agreed_first h t.asked passed t.exchange given agreed after.exchange in
    let stays = oack_again_goes h t.asked passed c.args.dir given server (λ out stop. false≢true (sym c.if-has_stopped.false ∙ (c.has_gone_out-has_stopped.ensures passed (errors g at h passed after)).1 stop)) in (
      oack_again_passes h t.asked passed c.args.dir given server first stays (λ late. false≢true (sym c.if-late_oack.false ∙ (c.late_oack.ensures h passed after).1 late)),
      transfer_with_oack_again t h passed d given agreed after says.1,
    )
