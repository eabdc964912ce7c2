use Rattle.judge_tap.proofs.StopsNoted.{other_none, other_some}
use Rattle.judge_tap.proofs.notes.TapNotes.has_other_error.Goals as goal

pub returns-in-Some : goal.returns-in-Some
returns-in-Some c = λ s passed are. other_some s c.args.end passed c.args.self.now are c.in-Some.stopped.now c.in-Some.ensures c.args.code c.args.message.now c.is.result c.is.ensures

pub returns-in-None : goal.returns-in-None
returns-in-None c = λ s passed are. other_none s c.args.end passed c.args.self.now are c.in-None.ensures c.args.code c.args.message.now
