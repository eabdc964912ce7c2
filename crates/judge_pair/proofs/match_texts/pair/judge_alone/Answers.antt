use Rattle.std.proofs.Common.{[], sym, subst, ap, ◌∙◌}
use Rattle.tftp_judge.specs.{IsJudgeAfter, header_by}
use Rattle.judge_pair.specs.MatchTexts.{IsJudgedBy}
use Rattle.judge_pair.proofs.MatchTextsLemmas.Ending.{finished}
use Rattle.judge_pair.proofs.MatchTextsLemmas.Steps.{was_halted}
use Rattle.judge_pair.proofs.match_texts.pair.judge_alone.Goals as goal

pub returns : goal.returns
returns g c = λ before begun.
    let o = c.args.rollover in
    let h = header_by o c.args.capture.header in
    let fresh = subst (λ x. IsJudgeAfter c.new-judge.result x []) (c.with_rollover-header.ensures ∙ ap (header_by o) c.header.ensures) c.new-judge.ensures in
    let (read, at, stands) = c.read_alone.ensures.runs before h h [] [] (begun, c.new-judge.ensures.goes_on) (λ _. fresh) in
    let (why, is) = c.read_alone.ensures.halts in
    let known = was_halted o before (g.R.Read.remaining c.read_alone.new.reader.0) c.read_alone.new.reader.1 c.read_alone.new.self.halt c.read_alone.new.self.capture c.read_alone.new.judge.refused h read why is at in
    subst (IsJudgedBy o before (g.R.Read.remaining c.read_alone.new.reader.0) c.read_alone.new.reader.1) (sym (c.said_of.ensures why is))
    (known.says c.finish.result (finished c.read_alone.new.judge.refused h read c.finish.result (λ none. c.finish.ensures.verdict h read (stands none))
    (λ count none same. (c.finish.ensures.joins h read count (stands none) same).2) c.finish.ensures.for_good))
