use Rattle.net_streams.proofs.DigitsLemmas.Pairs.{Decodes}
use Rattle.net_streams.proofs.digits.reading.decode_each.Given as goal

abbrev pub invariant-loop-byte : goal.invariant-loop-byte
invariant-loop-byte l = Decodes l.digits l.bytes l.rest l.byte-index l.most
