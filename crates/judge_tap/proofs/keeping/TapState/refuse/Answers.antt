use Rattle.judge_tap.proofs.keeping.TapState.refuse.Goals as goal

pub returns-clause-stands : goal.returns-clause-stands
returns-clause-stands g c = λ s earlier now apart passes sides kept told taken. c.standing-self-inside.ensures s earlier now apart passes sides kept told taken
