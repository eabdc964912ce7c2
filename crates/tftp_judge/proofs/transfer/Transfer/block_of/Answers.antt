use Rattle.std.proofs.Common.{◌≡◌, ◌≤◌, Option, Some, None, sym, subst, ap, ◌∙◌, arith}
use Rattle.tftp_packet.specs.{Rollover}
use Rattle.tftp_packet.specs.Rounds.{greatest_of, position_of}
use Rattle.law_model.specs.Rules.{IsHigh}
use Rattle.law_rollover.proofs.Shown.{one_greatest}
use Rattle.tftp_judge.specs.{IsTransferAfter, Transfer}
use Rattle.tftp_judge.proofs.transfer.Transfer.block_of.Goals as goal

most : (rollover : Option Rollover) → greatest_of rollover ≤ 8388607
most None = omega (arith)
most (Some rollover) = omega (arith)

pub returns-in-Some-clause-near : goal.returns-in-Some-clause-near
returns-in-Some-clause-near g c = λ h passed r high after is top.
    let kept = subst (λ (t : Transfer). IsTransferAfter t h passed) (sym c.self.view_is) after in
    let found : IsHigh passed c.highest.result = c.highest.ensures.highest h c.self.inside.asked passed kept.exchange in
    let same : c.highest.result ≡ high = one_greatest _ c.highest.result high found top in
    let low = c.highest.ensures.within h c.self.inside.asked passed kept.exchange in
    let bound = most h.rollover in
    let least = c.min-highest.ensures in
    let all = c.greatest_block.ensures in
    let near : c.min-highest.result ≡ high = omega (arith, same, low, bound, least, all) in
    let both : Some c.in-Some.rollover ≡ Some r = sym c.in-Some.is ∙ is in
    let by : c.in-Some.rollover ≡ r = cc in
    c.position.ensures ∙ ap (λ k. position_of c.in-Some.rollover k c.args.number) near ∙ ap (λ x. position_of x high c.args.number) by
