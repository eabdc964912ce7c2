use Rattle.std.proofs.Common.{◌≡◌, false, [], ◌∷◌, take, bytes_eq, refl, arith, rules}
use Rattle.std.proofs.lemmas.Grind.{common_steps}
use Rattle.std.proofs.lemmas.Slice.Eq.{bytes_eq-Decides}
use Rattle.std.specs.Net.Text.{ipv6_text}
use Rattle.net_udp.proofs.frames.address.put_ipv6.Goals as goal

pub returns-in-Some-clause-text : goal.returns-in-Some-clause-text
unfolding ipv6_text
returns-in-Some-clause-text c =
    let mapped = (bytes_eq-Decides _ _).1 (c.in-Some.ensures.found.0 refl) in
    rw (mapped, ← c.in-Some.ensures.value) (first_of (search rules, grind (arith, common_steps)))

pub returns-in-None-clause-text : goal.returns-in-None-clause-text
unfolding ipv6_text
returns-in-None-clause-text c =
    let other : bytes_eq (take 6 c.args.address.now.segments) (0 ∷ 0 ∷ 0 ∷ 0 ∷ 0 ∷ 0xffff ∷ []) ≡ false =
    grind (arith, bytes_eq-Decides (take 6 c.args.address.now.segments) (0 ∷ 0 ∷ 0 ∷ 0 ∷ 0 ∷ 0xffff ∷ []), c.in-None.ensures.found) in
    rw other (first_of (search rules, grind (arith, common_steps)))
