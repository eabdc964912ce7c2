use Rattle.judge_pair.proofs.JudgeLemmas.Verdicts.{one_why}
use Rattle.judge_pair.proofs.judge.laws.why_it_waits_is_one.Goals as goal

pub returns : goal.returns
returns c = one_why
