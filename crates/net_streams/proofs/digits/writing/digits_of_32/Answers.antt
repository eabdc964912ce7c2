use Rattle.std.proofs.Common.{◌++◌, refl}
use Rattle.hex.specs.Hex.{lower_digits}
use Rattle.net_streams.proofs.DigitsLemmas.Lanes.{high_ok, low_ok, twice, in_turn_32, digits_of_all}
use Rattle.net_streams.proofs.digits.writing.digits_of_32.Goals as goal

pub swizzle-high : goal.swizzle-high
swizzle-high c = high_ok 2 32 c.args.bytes refl c.fits-bytes.0 c.fits-bytes.1

pub swizzle-low : goal.swizzle-low
swizzle-low c = low_ok 2 32 c.args.bytes refl c.fits-bytes.0

pub returns : goal.returns
returns c = digits_of_all (lower_digits ++ lower_digits) lower_digits 2 32 c.args.bytes refl twice c.fits-bytes.0 c.fits-bytes.1 (in_turn_32 lower_digits c.args.bytes c.fits-bytes.0)
