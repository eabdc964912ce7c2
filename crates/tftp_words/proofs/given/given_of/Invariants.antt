use Rattle.std.proofs.Common.{length, map}
use Rattle.tftp_words.proofs.Reading.{Read}
use Rattle.tftp_words.proofs.given.given_of.Given as goal

abbrev pub invariant-loop-word : goal.invariant-loop-word
invariant-loop-word g l = Read (map g.S.AsStr.text l.fn.words) (map g.S.AsStr.text l.rest) l.given

abbrev pub decreases-loop-word : goal.decreases-loop-word
decreases-loop-word g l = length l.rest
