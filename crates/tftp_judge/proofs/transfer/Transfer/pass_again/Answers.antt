use Rattle.std.proofs.Common.{◌≡◌, List, true≢false, sym, subst, ap, rules, ◌∙◌}
use Rattle.std.proofs.lemmas.Bool.{false≢true}
use Rattle.tftp_packet.specs.{End, Server}
use Rattle.tftp_packet.specs.Hosts.{Datagram, Header}
use Rattle.tftp_packet.specs.{Out}
use Rattle.law_model.specs.Rules.{author_of}
use Rattle.tftp_judge.specs.{Errors, AreErrors, Transfer, IsTransferAfter}
use Rattle.tftp_judge.proofs.MessageFound.{again_goes, again_late, again_passes}
use Rattle.tftp_judge.proofs.StaysAfter.{transfer_with_request}
use Rattle.tftp_judge.proofs.transfer.Transfer.pass_again.Given.{Over}
use Rattle.tftp_judge.proofs.transfer.Transfer.pass_again.Goals.{Else-eq}
use Rattle.tftp_judge.proofs.transfer.Transfer.pass_again.Goals as goal

-- the client sends it
other : (g : Over) (c : Else-eq g) (h : Header) (passed : List Datagram) → IsTransferAfter c.args.self.now h passed → author_of h.named c.args.dir ≡ Server → ⊥
other g c h passed after server =
    let author : c.author_of.result ≡ Server = c.author_of.ensures ∙ ap (λ (n : End). author_of n c.args.dir) (ap (λ (t : Transfer). t.named) c.self.view_is ∙ after.named) ∙ server in
    false≢true (rw author at c.if-eq.ensures)

errors : (g : Over) (c : Else-eq g) (h : Header) (passed : List Datagram) → IsTransferAfter c.args.self.now h passed → AreErrors c.self.inside.errors passed
errors g c h passed after = subst (λ (e : Errors). AreErrors e passed) (sym (ap (λ (t : Transfer). t.errors) c.self.view_is)) after.errors

pub returns-then-eq-2-clause-finds : goal.returns-then-eq-2-clause-finds
returns-then-eq-2-clause-finds g c = λ h passed d after says.
    let asked = c.args.self.now.asked in
    let client = other g (goal.at.returns-then-eq-2-clause-finds g c).Else-eq h passed after in
    let not_out : c.args.dir ≡ Out → ⊥ = λ out. true≢false (rw out at c.if-eq-2.ensures) in (
      again_passes h asked passed c.args.dir client (again_goes h asked passed c.args.dir client (λ out stop. not_out out)) (λ out went. not_out out),
      transfer_with_request c.args.self.now h passed d asked after says.1,
    )

pub returns-then-client_went_on-clause-finds : goal.returns-then-client_went_on-clause-finds
returns-then-client_went_on-clause-finds g c = λ h passed d after says.
    let asked = c.args.self.now.asked in
    let at = (goal.at.returns-then-client_went_on-clause-finds g c).Else-eq in
    let client = other g at h passed after in
    let stays = again_goes h asked passed c.args.dir client (λ out stop. false≢true (sym c.if-has_gone_out.false ∙ (c.has_gone_out.ensures passed (errors g at h passed after)).1 stop)) in
    again_late h asked passed c.args.dir client stays (search rules) ((c.client_went_on.ensures h passed after).0 c.if-client_went_on.true)

pub returns-clause-finds : goal.returns-clause-finds
returns-clause-finds g c = λ h passed d after says.
    let asked = c.args.self.now.asked in
    let at = (goal.at.returns-clause-finds g c).Else-eq in
    let client = other g at h passed after in
    let stays = again_goes h asked passed c.args.dir client (λ out stop. false≢true (sym c.if-has_gone_out.false ∙ (c.has_gone_out.ensures passed (errors g at h passed after)).1 stop)) in (
      again_passes h asked passed c.args.dir client stays (λ out went. false≢true (sym c.if-client_went_on.false ∙ (c.client_went_on.ensures h passed after).1 went)),
      transfer_with_request c.args.self.now h passed d asked after says.1,
    )
