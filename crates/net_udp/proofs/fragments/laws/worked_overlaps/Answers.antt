use Rattle.std.proofs.Common.{inl, inr, refl, arith}
use Rattle.net_udp.proofs.FragmentsLemmas.Examples.{first_again, not_one, other_way, true_not_false}
use Rattle.net_udp.proofs.fragments.laws.worked_overlaps.Goals as goal

pub returns-clause-across : goal.returns-clause-across
returns-clause-across c = inl (refl, inl (omega arith, omega arith, not_one))

pub returns-clause-before : goal.returns-clause-before
returns-clause-before c = inl (refl, inl (omega arith, omega arith, other_way))

pub returns-clause-again : goal.returns-clause-again
returns-clause-again c = first_again

pub returns-clause-ipv4 : goal.returns-clause-ipv4
returns-clause-ipv4 c = λ two. elim two [ inl one ↦ absurd (true_not_false one.0) | inr more ↦ elim more [ inl one ↦ one.1 | inr none ↦ none ] ]
