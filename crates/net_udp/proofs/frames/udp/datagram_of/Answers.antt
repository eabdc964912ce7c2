use Rattle.std.proofs.Common.{arith}
use Rattle.net_udp.proofs.frames.udp.datagram_of.Goals as goal

pub returns-clause-sound : goal.returns-clause-sound
returns-clause-sound c = record {
  source_port = (c.requires.source, omega arith);
  target_port = (c.requires.target, omega arith);
  bytes = λ k. omega (arith, c.type_inv.payload k);
  fits = c.requires.fits;
}
