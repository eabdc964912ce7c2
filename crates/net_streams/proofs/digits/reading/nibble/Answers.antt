use Rattle.net_streams.proofs.DigitsLemmas.Nibbles.{IsNibble-nibble_of}
use Rattle.net_streams.proofs.digits.reading.nibble.Goals as goal

pub returns : goal.returns
returns c = rw (c.min.ensures, c.saturating_sub-digit.ensures) (IsNibble-nibble_of c.args.byte c.ranges.byte.fits)
