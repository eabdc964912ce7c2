use Rattle.judge_pair.proofs.JudgeLemmas.Verdicts.{merged_is_verdict}
use Rattle.judge_pair.proofs.judge.laws.what_is_merged_is_the_verdict.Goals as goal

pub returns : goal.returns
returns c = merged_is_verdict
