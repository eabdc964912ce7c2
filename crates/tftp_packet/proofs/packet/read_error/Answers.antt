use Rattle.std.proofs.Common.{◌≡◌, ◌/◌, ◌%◌, ℕ, List, ◌∷◌, subst, arith}
use Rattle.tftp_packet.specs.{IsPair}
use Rattle.tftp_packet.proofs.Judged.{all_bytes, error_parts, error_fault, numbered}
use Rattle.tftp_packet.proofs.packet.read_error.Goals as goal

pub returns-in-None : goal.returns-in-None
returns-in-None c =
    error_fault c.args.payload.now _ _ _ (error_parts c.args.payload.now c.requires (all_bytes c.args.payload.now c.type_inv.payload) c.if-payload-lt4.false) c.in-None.ensures

pub returns-in-Some : goal.returns-in-Some
returns-in-Some c =
    let payload = c.args.payload.now in
    let n = c.read_u16.result in
    let message = c.in-Some.message.now in
    let only = c.in-Some.ensures in
    let parts = subst (λ (r : List ℕ). ((x y : ℕ) × IsPair x y n × (payload ≡ 0 ∷ 5 ∷ x ∷ y ∷ r)) × (payload ≡ 0 ∷ 5 ∷ n / 256 ∷ n % 256 ∷ r)) only.1
    (numbered payload 5 n c.requires (omega arith) (omega arith) (all_bytes payload c.type_inv.payload) c.if-payload-lt4.false c.read_u16.ensures) in
    ((parts.0.0, parts.0.1, parts.0.2, only.0, parts.0.3), parts.1)
