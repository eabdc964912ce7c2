use Rattle.std.proofs.Common.{refl}
use Rattle.hex.specs.Hex.{lower_digits}
use Rattle.net_streams.proofs.DigitsLemmas.Lanes.{high_ok, low_ok, once, in_turn_16, digits_of_all}
use Rattle.net_streams.proofs.digits.writing.digits_of_16.Goals as goal

pub swizzle-high : goal.swizzle-high
swizzle-high c = high_ok 1 16 c.args.bytes refl c.fits-bytes.0 c.fits-bytes.1

pub swizzle-low : goal.swizzle-low
swizzle-low c = low_ok 1 16 c.args.bytes refl c.fits-bytes.0

pub returns : goal.returns
returns c = digits_of_all lower_digits lower_digits 1 16 c.args.bytes refl (once lower_digits) c.fits-bytes.0 c.fits-bytes.1 (in_turn_16 lower_digits c.args.bytes c.fits-bytes.0)
