use Rattle.std.proofs.Common.{ℕ, ◌≡◌, ◌<◌, ◌≤◌, List, ◌∷◌, subst, arith}
use Rattle.std.specs.List.{AllByRecursion}
use Rattle.tftp_packet.specs.{IsPlace}
use Rattle.tftp_packet.proofs.laws.bytes_spell_blocks_of_two_bytes.Goals as goal

two_bytes : (payload rest : List ℕ) (opcode x y k : ℕ) → AllByRecursion (λ b. b < 256) payload → IsPlace x y k → payload ≡ 0 ∷ opcode ∷ x ∷ y ∷ rest → k ≤ 65535
two_bytes payload rest opcode x y k all place is =
    let bytes = subst (AllByRecursion (λ b. b < 256)) is all in
    let first = bytes.1.1.0 in
    omega (arith, first, place.0, place.1)

pub returns-clause-data : goal.returns-clause-data
returns-clause-data c = λ payload bytes k all spells. let (x, y, place, is) = spells.1 in two_bytes payload bytes 3 x y k all place is

pub returns-clause-ack : goal.returns-clause-ack
returns-clause-ack c = λ payload k all spells. let (x, y, place, is) = spells.1 in two_bytes payload _ 4 x y k all place is
