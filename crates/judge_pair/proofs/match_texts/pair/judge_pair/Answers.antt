use Rattle.judge_pair.proofs.MatchTextsLemmas.Headline.{plain_said, says_consistent}
use Rattle.judge_pair.proofs.match_texts.pair.judge_pair.Goals as goal

pub returns-clause-consistent : goal.returns-clause-consistent
returns-clause-consistent g c = λ text other is other_is clean other_clean h k ds es capture other_capture.
    says_consistent _ _ _ _ _ _ _ _ text other is other_is clean other_clean h k ds es capture other_capture c.judge_both.result.together (plain_said _ _ _ _ _ _ _ _ c.judge_both.result.together c.judge_both.ensures)

pub returns-clause-matched : goal.returns-clause-matched
returns-clause-matched g c = (plain_said _ _ _ _ _ _ _ _ c.judge_both.result.together c.judge_both.ensures).numbers
