use Rattle.judge_pair.proofs.MatchTextsLemmas.Fronts.{has_all, has_all_before, has_one}
use Rattle.judge_pair.proofs.match_texts.laws.texts_have_their_datagrams.Goals as goal

pub returns : goal.returns
returns c = record { captured = has_all; faulty = has_all_before; one = has_one }
