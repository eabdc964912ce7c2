-- What a payload says with a block in the place of its number.
use Rattle.std.proofs.Common.{◌≡◌, ℕ, ◌/◌, ◌%◌, Bool, true, false, List, [], ◌∷◌, length, refl, sym, subst, ap, ◌∙◌, arith}
use Rattle.std.specs.Prelude.{if◌then◌else◌}
use Rattle.tftp_packet.specs.{Message, Spells, opcode_of}
use Rattle.tftp_packet.specs.{Rollover}
use Rattle.tftp_packet.specs.Rounds.{position_of}
use Rattle.law_rollover.specs.{carries_number, unrolled_payload, with_place}

-- ---- blocks and ACKs

pub data_unrolled : (r : Rollover) (high n : ℕ) (bytes payload : List ℕ) → Spells payload (Message.Data n bytes)
    → Spells (unrolled_payload r high payload) (Message.Data (position_of r high n) bytes)
data_unrolled r high n bytes payload (all, (x, y, place, layout)) =
    let k = position_of r high n in
    let bytes_of = subst (λ (p : List ℕ). Spells p (Message.Data n bytes)) layout (all, (x, y, place, layout)) in
    let there : Spells (0 ∷ 3 ∷ k / 256 ∷ k % 256 ∷ bytes) (Message.Data k bytes) =
    ((bytes_of.0.0, (bytes_of.0.1.0, (omega (arith), bytes_of.0.1.1.1))), (k / 256, k % 256, (omega (arith), omega (arith)), refl)) in
    let is : unrolled_payload r high (0 ∷ 3 ∷ x ∷ y ∷ bytes) ≡ 0 ∷ 3 ∷ k / 256 ∷ k % 256 ∷ bytes =
    ap (λ m. 0 ∷ 3 ∷ position_of r high m / 256 ∷ position_of r high m % 256 ∷ bytes) (sym place.1) in
    subst (λ p. Spells p (Message.Data k bytes)) (sym (ap (unrolled_payload r high) layout ∙ is)) there

pub ack_unrolled : (r : Rollover) (high n : ℕ) (payload : List ℕ) → Spells payload (Message.Ack n)
    → Spells (unrolled_payload r high payload) (Message.Ack (position_of r high n))
ack_unrolled r high n payload (all, (x, y, place, layout)) =
    let k = position_of r high n in
    let bytes_of = subst (λ (p : List ℕ). Spells p (Message.Ack n)) layout (all, (x, y, place, layout)) in
    let there : Spells (0 ∷ 4 ∷ k / 256 ∷ k % 256 ∷ []) (Message.Ack k) =
    ((bytes_of.0.0, (bytes_of.0.1.0, (omega (arith), tt))), (k / 256, k % 256, (omega (arith), omega (arith)), refl)) in
    let is : unrolled_payload r high (0 ∷ 4 ∷ x ∷ y ∷ []) ≡ 0 ∷ 4 ∷ k / 256 ∷ k % 256 ∷ [] =
    ap (λ m. 0 ∷ 4 ∷ position_of r high m / 256 ∷ position_of r high m % 256 ∷ []) (sym place.1) in
    subst (λ p. Spells p (Message.Ack k)) (sym (ap (unrolled_payload r high) layout ∙ is)) there

-- ---- what stays

pub others_stay : (r : Rollover) (high : ℕ) (payload : List ℕ) → carries_number payload ≡ false → unrolled_payload r high payload ≡ payload
others_stay r high payload none = ap (λ b. if b then with_place (position_of r high) payload else payload) none

opcode_placed : (f : ℕ → ℕ) (payload : List ℕ) → opcode_of (with_place f payload) ≡ opcode_of payload
opcode_placed f [] = refl
opcode_placed f (a ∷ []) = refl
opcode_placed f (a ∷ b ∷ []) = refl
opcode_placed f (a ∷ b ∷ x ∷ []) = refl
opcode_placed f (a ∷ b ∷ x ∷ y ∷ rest) = refl

length_placed : (f : ℕ → ℕ) (payload : List ℕ) → length (with_place f payload) ≡ length payload
length_placed f [] = refl
length_placed f (a ∷ []) = refl
length_placed f (a ∷ b ∷ []) = refl
length_placed f (a ∷ b ∷ x ∷ []) = refl
length_placed f (a ∷ b ∷ x ∷ y ∷ rest) = refl

pub opcode_stays : (r : Rollover) (high : ℕ) (payload : List ℕ) → opcode_of (unrolled_payload r high payload) ≡ opcode_of payload
opcode_stays r high payload = by (carries_number payload) where
  by : (b : Bool) → opcode_of (if b then with_place (position_of r high) payload else payload) ≡ opcode_of payload
  by true = opcode_placed (position_of r high) payload
  by false = refl

pub length_stays : (r : Rollover) (high : ℕ) (payload : List ℕ) → length (unrolled_payload r high payload) ≡ length payload
length_stays r high payload = by (carries_number payload) where
  by : (b : Bool) → length (if b then with_place (position_of r high) payload else payload) ≡ length payload
  by true = length_placed (position_of r high) payload
  by false = refl
