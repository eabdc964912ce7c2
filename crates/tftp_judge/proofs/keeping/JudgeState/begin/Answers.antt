use Rattle.std.proofs.Common.{◌≡◌, [], ◌∷◌, refl, rules, sym, subst, ap, ◌∙◌}
use Rattle.tftp_packet.specs.{Message, RequestParts, Spells, parts}
use Rattle.tftp_judge.specs.{IsTransferAfter, JudgeState, Transfer}
use Rattle.tftp_judge.proofs.keeping.JudgeState.begin.Goals as goal

pub returns-clause-begins : goal.returns-clause-begins
returns-clause-begins g c =
    let own : c.in_ok-asked.asked ≡ parts c.args.asked.now = search rules in
    let is : c.insert.result.now ≡ c.of-2.result = c.insert.ensures.value in
    let asked : c.insert.result.now.asked ≡ c.in_ok-asked.asked = ap (λ (t : Transfer). t.asked) is ∙ c.of-2.ensures.asked in (
      c.insert.result.now,
      refl,
      asked ∙ own,
      λ h d named same spells. subst (λ (t : Transfer). IsTransferAfter t h (d ∷ [])) (sym is)
          (c.of-2.ensures.after h d (named ∙ sym (ap (λ (k : JudgeState). k.header.named) c.self.view_is))
          (same ∙ sym (ap (λ (k : JudgeState). k.header.rollover) c.self.view_is)) (subst (λ (r : RequestParts). Spells d.payload (Message.Request r)) asked spells)),
    )
