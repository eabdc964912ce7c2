use Rattle.std.proofs.Common.{ℕ, subst}
use Rattle.net_streams.specs.Digits.Digits.{AreNibbles}
use Rattle.net_streams.proofs.DigitsLemmas.Nibbles.{AreNibbles-nibbles_of, nibbles_of}
use Rattle.net_streams.proofs.digits.vectors.nibbles.Goals as goal

pub returns : goal.returns
returns g c = subst (λ (n : ℕ). AreNibbles c.args.digits (nibbles_of n c.args.digits)) c.fits-digits.0 (AreNibbles-nibbles_of c.args.digits c.fits-digits.1)
