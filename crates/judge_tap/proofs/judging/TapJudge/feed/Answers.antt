use Rattle.std.proofs.Common.{refl}
use Rattle.judge_tap.proofs.judging.TapJudge.feed.Goals as goal

pub returns-clause-certain : goal.returns-clause-certain
returns-clause-certain g c = λ s earlier stands. c.take.ensures.certain s earlier c.args.datagram.payload stands refl
