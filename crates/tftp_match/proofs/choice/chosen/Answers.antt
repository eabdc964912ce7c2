use Rattle.std.proofs.Common.{sym, ◌∙◌, ap}
use Rattle.tftp_match.proofs.ChoiceLemmas.{listed, two_matched}
use Rattle.tftp_match.proofs.choice.chosen.Goals as goal

pub returns-in-Some : goal.returns-in-Some
returns-in-Some c = sym (two_matched c.args.tried.now c.loop-one.one-index _ c.in-Some.field-0 c.loop-one-test.true (c.loop-one.invariant ∙ ap listed c.in-Some.is) c.if-one.true)
