use Rattle.std.proofs.Common.{refl, arith}
use Rattle.net_udp.proofs.FragmentsLemmas.Examples.{both_cut, other_order}
use Rattle.net_udp.proofs.fragments.laws.worked_protocols.Goals as goal

pub returns-clause-first : goal.returns-clause-first
returns-clause-first c = both_cut

pub returns-clause-last : goal.returns-clause-last
returns-clause-last c = other_order

pub returns-clause-apart : goal.returns-clause-apart
returns-clause-apart c = λ whole h. let one = h.0.first refl in let other = h.1.0.first refl in absurd (omega (arith, one, other))
