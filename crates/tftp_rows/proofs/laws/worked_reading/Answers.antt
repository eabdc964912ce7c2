use Rattle.std.proofs.Common.{◌≡◌, ◌∷◌, ◌++◌, [], None, Some, ap, arith, length, length-append, refl}
use Rattle.tftp_rows.specs.Whole.{Part}
use Rattle.tftp_rows.proofs.laws.worked_reading.Goals as goal

pub returns-clause-part : goal.returns-clause-part
returns-clause-part c first second s t = record { next_frames = []; next_carried = second ∷ []; frames = refl; datagrams = refl }

pub returns-clause-no_part : goal.returns-clause-no_part
returns-clause-no_part c first second s t part =
    let long : 1 ≡ length (part.next_carried ++ second ∷ first ∷ []) = ap length part.datagrams in
    let sum = length-append part.next_carried (second ∷ first ∷ []) in
    omega (arith, long, sum)

pub returns-clause-end : goal.returns-clause-end
returns-clause-end c file all end is = ap {A = Part} (λ p. p.carried) is.3

pub returns-clause-none : goal.returns-clause-none
returns-clause-none c name named judging t are = let no : None ≡ Some t.transfer = are.0 in cc
