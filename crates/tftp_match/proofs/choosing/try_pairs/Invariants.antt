use Rattle.std.proofs.Common.{take}
use Rattle.tftp_match.specs.Choice.{AreTried}
use Rattle.tftp_match.specs.Given.{texts_of}
use Rattle.tftp_match.proofs.choosing.try_pairs.Given as goal

-- those so far were tried
abbrev pub invariant-loop-pair : goal.invariant-loop-pair
invariant-loop-pair g l = AreTried (texts_of l.rollover (g.C.Texts.is_text l.client.texts.now) (g.S.Texts.is_text l.server.texts.now)) (take l.pair-index l.pairs) l.tried.items
