use Rattle.judge_tap.proofs.LossyFound.{first_notes}
use Rattle.judge_tap.proofs.said_notes.SaidNotes.begin.Goals as goal

pub returns : goal.returns
returns c = λ s earlier d follows none says. first_notes s earlier d c.args.rollover follows c.args.asked c.none.result c.none-3.result (c.none.ensures s follows) c.none-3.ensures c.none-2.result c.none-2.ensures none says
