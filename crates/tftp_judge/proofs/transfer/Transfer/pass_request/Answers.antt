use Rattle.std.proofs.Common.{◌≡◌, sym, ap, rules, ◌∙◌}
use Rattle.std.proofs.lemmas.Bool.{false≢true}
use Rattle.tftp_packet.specs.{parts}
use Rattle.tftp_judge.specs.{Transfer}
use Rattle.tftp_judge.proofs.MessageFound.{request_late, request_passes}
use Rattle.tftp_judge.proofs.StaysAfter.{transfer_with_request}
use Rattle.tftp_judge.proofs.transfer.Transfer.pass_request.Goals as goal
use Rattle.tftp_judge.proofs.transfer.Transfer.pass_request.Goals.{else-eq-via-then-eq+else-client_went_on, else-eq-via-else-eq}

pub returns-then-client_went_on-clause-finds : goal.returns-then-client_went_on-clause-finds
returns-then-client_went_on-clause-finds g c = λ h passed d after says.
    let same : parts c.args.now.now ≡ c.args.self.now.asked = sym (c.same_request.ensures.0 c.if-not-same_request.false) ∙ ap (λ (t : Transfer). t.asked) c.self.view_is in
    request_late c.args.self.now.asked passed c.args.dir (parts c.args.now.now) same (search rules) ((c.client_went_on.ensures h passed after).0 c.if-client_went_on.true)

pub returns-clause-finds : goal.returns-clause-finds
returns-clause-finds g c = λ h passed d after says.
    let same : parts c.args.now.now ≡ c.args.self.now.asked = sym (c.same_request.ensures.0 c.if-not-same_request.false) ∙ ap (λ (t : Transfer). t.asked) c.self.view_is in (
      request_passes c.args.self.now.asked passed c.args.dir (parts c.args.now.now) same (λ out went. elim c.else-eq.branch [
        | else-eq-via-then-eq+else-client_went_on w ↦ false≢true (sym w.if-client_went_on.false ∙ (w.client_went_on.ensures h passed after).1 went)
        | else-eq-via-else-eq w ↦ absurd (search rules)
      ]),
      transfer_with_request c.args.self.now h passed d (parts c.args.now.now) after says.1,
    )
