use Rattle.std.proofs.Common.{◌≡◌, ◌-◌, ◌/◌, ◌%◌, ℕ, List, [], ◌∷◌, take, drop, length, ap, subst, arith}
use Rattle.tftp_packet.specs.{IsPair, Message, opcode_of}
use Rattle.tftp_packet.proofs.Judged.{all_bytes, bytes_but, as_place, numbered}
use Rattle.tftp_packet.proofs.packet.ack_of.Goals as goal

-- of four bytes there is none behind the number
alone : (payload : List ℕ) (n : ℕ) → length payload ≡ 4 → ((x y : ℕ) × IsPair x y n × (payload ≡ 0 ∷ 4 ∷ x ∷ y ∷ take (length payload - 4) (drop 4 payload))) × (payload ≡ 0 ∷ 4 ∷ n / 256 ∷ n % 256 ∷ take (length payload - 4) (drop 4 payload))
    → ((x y : ℕ) × IsPair x y n × (payload ≡ 0 ∷ 4 ∷ x ∷ y ∷ [])) × (payload ≡ 0 ∷ 4 ∷ n / 256 ∷ n % 256 ∷ [])
alone payload n four =
    let none : take (length payload - 4) (drop 4 payload) ≡ [] = ap (λ k. take (k - 4) (drop 4 payload)) four in
    subst (λ (r : List ℕ). ((x y : ℕ) × IsPair x y n × (payload ≡ 0 ∷ 4 ∷ x ∷ y ∷ r)) × (payload ≡ 0 ∷ 4 ∷ n / 256 ∷ n % 256 ∷ r)) none

pub returns-clause-written : goal.returns-clause-written
returns-clause-written c =
    let four : length c.args.payload.now ≡ 4 = omega (arith, c.if-payload-ne4.false) in
    let is : opcode_of c.args.payload.now ≡ 4 = omega (arith, c.if-opcode-ne4.false, c.opcode.ensures) in
    (alone c.args.payload.now c.read_u16.result four (numbered c.args.payload.now 4 c.read_u16.result is (omega arith) (omega arith) (all_bytes c.args.payload.now c.type_inv.payload) (omega arith) c.read_u16.ensures)).1

pub returns-clause-spelled : goal.returns-clause-spelled
returns-clause-spelled c =
    let four : length c.args.payload.now ≡ 4 = omega (arith, c.if-payload-ne4.false) in
    let is : opcode_of c.args.payload.now ≡ 4 = omega (arith, c.if-opcode-ne4.false, c.opcode.ensures) in
    let bytes = all_bytes c.args.payload.now c.type_inv.payload in
    (bytes_but (Message.Ack c.read_u16.result) c.args.payload.now bytes, as_place c.args.payload.now [] 4 c.read_u16.result (alone c.args.payload.now c.read_u16.result four (numbered c.args.payload.now 4 c.read_u16.result is (omega arith) (omega arith) bytes (omega arith) c.read_u16.ensures)).0)
