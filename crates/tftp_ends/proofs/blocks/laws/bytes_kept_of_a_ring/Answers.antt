use Rattle.std.proofs.Common.{refl, arith}
use Rattle.tftp_ends.proofs.blocks.laws.bytes_kept_of_a_ring.Goals as goal

pub returns-clause-most : goal.returns-clause-most
returns-clause-most c = record { none = λ empty. cc; most = omega arith }

pub returns-clause-more : goal.returns-clause-more
returns-clause-more c = λ room. let low = room.most in omega arith

pub returns-clause-none : goal.returns-clause-none
returns-clause-none c = λ room. let none = room.none refl in omega arith
