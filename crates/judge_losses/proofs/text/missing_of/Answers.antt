use Rattle.judge_losses.proofs.text.missing_of.Goals as goal

pub returns : goal.returns
returns c = c.missing_with-found.ensures.whole c.args.text.now (rw c.new-2.ensures)
