use Rattle.std.proofs.Common.{◌≡◌, ◌<◌, ◌∷◌, max, sym, ap, subst, ◌∙◌}
use Rattle.tftp_packet.specs.{Message, Spells}
use Rattle.law_model.specs.Rules.{IsHigh}
use Rattle.judge_pair.specs.Blocks.{block_or, with_block}
use Rattle.judge_pair.specs.Judge.{Side}
use Rattle.judge_pair.proofs.JudgeLemmas.Blocks.{data_by, length_by, opcode_by}
use Rattle.judge_pair.proofs.JudgeLemmas.Highest.{SaysNoBlock, high_rises, high_stays, too_short}
use Rattle.judge_pair.proofs.judge.side.Side.raise.Goals as goal

pub returns-in-Some-clause-high : goal.returns-in-Some-clause-high
returns-in-Some-clause-high g c = λ passed d is top.
    let block = c.args.block in
    let high : c.max-self-inside.result ≡ max c.args.self.now.highest (block_or c.in-Some.number block) =
    c.max-self-inside.ensures ∙ ap (max c.self.inside.highest) c.block_by.ensures ∙ ap (λ (s : Side). max s.highest (block_or c.in-Some.number block)) c.self.view_is in
    subst (IsHigh (d ∷ passed)) (sym high) (high_rises passed d c.args.self.now.highest (block_or c.in-Some.number block) c.in-Some.field-0-1.now top
    (subst (λ bytes. Spells bytes (Message.Data (block_or c.in-Some.number block) c.in-Some.field-0-1.now)) (sym is) (data_by block c.in-Some.number c.in-Some.field-0-1.now c.args.payload.now c.in-Some.ensures.spelled)))

pub returns-in_default-clause-high : goal.returns-in_default-clause-high
returns-in_default-clause-high g c = λ passed d is top.
    let block = c.args.block in
    high_stays passed d c.args.self.now.highest top (subst SaysNoBlock (sym is) (too_short (with_block block c.args.payload.now)
    (λ three. subst (λ n. n < 4) (sym (length_by block c.args.payload.now)) (c.block_of.ensures.none c.in_default.is (sym (opcode_by block c.args.payload.now) ∙ three)))))
