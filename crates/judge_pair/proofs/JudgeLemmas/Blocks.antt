-- What a payload says with a block in the place of its number.
use Rattle.std.proofs.Common.{◌≡◌, ℕ, ◌/◌, ◌%◌, ◌≤◌, List, [], ◌∷◌, length, Option, Some, None, Bool, true, false, if◌then◌else◌, refl, sym, subst, ap, ◌∙◌, arith}
use Rattle.tftp_packet.specs.{Message, Spells, opcode_of}
use Rattle.tftp_packet.specs.Hosts.{Datagram}
use Rattle.tftp_packet.specs.{Rollover}
use Rattle.law_model.specs.Rules.{IsHigh}
use Rattle.law_rollover.specs.{IsTaken, carries_number, unrolled_payload, with_payload, with_place}
use Rattle.law_rollover.proofs.Shown.{one_greatest}
use Rattle.judge_pair.specs.Blocks.{at_block, block_or, with_block}

pub data_placed : (k n : ℕ) (bytes payload : List ℕ) → Spells payload (Message.Data n bytes) → Spells (with_block (Some k) payload) (Message.Data k bytes)
data_placed k n bytes payload (all, (x, y, place, layout)) =
    let bytes_of = subst (λ (p : List ℕ). Spells p (Message.Data n bytes)) layout (all, (x, y, place, layout)) in
    let there : Spells (0 ∷ 3 ∷ k / 256 ∷ k % 256 ∷ bytes) (Message.Data k bytes) =
    ((bytes_of.0.0, (bytes_of.0.1.0, (omega (arith), bytes_of.0.1.1.1))), (k / 256, k % 256, (omega (arith), omega (arith)), refl)) in
    subst (λ p. Spells p (Message.Data k bytes)) (sym (ap (with_block (Some k)) layout)) there

pub ack_placed : (k n : ℕ) (payload : List ℕ) → Spells payload (Message.Ack n) → Spells (with_block (Some k) payload) (Message.Ack k)
ack_placed k n payload (all, (x, y, place, layout)) =
    let bytes_of = subst (λ (p : List ℕ). Spells p (Message.Ack n)) layout (all, (x, y, place, layout)) in
    let there : Spells (0 ∷ 4 ∷ k / 256 ∷ k % 256 ∷ []) (Message.Ack k) =
    ((bytes_of.0.0, (bytes_of.0.1.0, (omega (arith), tt))), (k / 256, k % 256, (omega (arith), omega (arith)), refl)) in
    subst (λ p. Spells p (Message.Ack k)) (sym (ap (with_block (Some k)) layout)) there

-- by the block that was read, or else the number
pub data_by : (block : Option ℕ) (n : ℕ) (bytes payload : List ℕ) → Spells payload (Message.Data n bytes) → Spells (with_block block payload) (Message.Data (block_or n block) bytes)
data_by None n bytes payload spells = spells
data_by (Some k) n bytes payload spells = data_placed k n bytes payload spells

pub ack_by : (block : Option ℕ) (n : ℕ) (payload : List ℕ) → Spells payload (Message.Ack n) → Spells (with_block block payload) (Message.Ack (block_or n block))
ack_by None n payload spells = spells
ack_by (Some k) n payload spells = ack_placed k n payload spells

-- ---- what stays

opcode_placed : (f : ℕ → ℕ) (payload : List ℕ) → opcode_of (with_place f payload) ≡ opcode_of payload
opcode_placed f [] = refl
opcode_placed f (a ∷ []) = refl
opcode_placed f (a ∷ b ∷ []) = refl
opcode_placed f (a ∷ b ∷ x ∷ []) = refl
opcode_placed f (a ∷ b ∷ x ∷ y ∷ rest) = refl

length_placed : (f : ℕ → ℕ) (payload : List ℕ) → length (with_place f payload) ≡ length payload
length_placed f [] = refl
length_placed f (a ∷ []) = refl
length_placed f (a ∷ b ∷ []) = refl
length_placed f (a ∷ b ∷ x ∷ []) = refl
length_placed f (a ∷ b ∷ x ∷ y ∷ rest) = refl

pub opcode_by : (block : Option ℕ) (payload : List ℕ) → opcode_of (with_block block payload) ≡ opcode_of payload
opcode_by None payload = refl
opcode_by (Some k) payload = by (carries_number payload) where
  by : (b : Bool) → opcode_of (if b then with_place (λ _. k) payload else payload) ≡ opcode_of payload
  by true = opcode_placed (λ _. k) payload
  by false = refl

pub length_by : (block : Option ℕ) (payload : List ℕ) → length (with_block block payload) ≡ length payload
length_by None payload = refl
length_by (Some k) payload = by (carries_number payload) where
  by : (b : Bool) → length (if b then with_place (λ _. k) payload else payload) ≡ length payload
  by true = length_placed (λ _. k) payload
  by false = refl

-- ---- what is taken is what was read by the block

pub taken_block : (rollover : Option Rollover) (passed : List Datagram) (high : ℕ) (block : Option ℕ) (d now : Datagram) → IsHigh passed high
    → (rollover ≡ None → block ≡ None) → ((r : Rollover) → rollover ≡ Some r → high ≤ 8388607 → with_block block d.payload ≡ unrolled_payload r high d.payload)
    → high ≤ 8388607 → IsTaken rollover passed d now → now ≡ at_block block d
taken_block None passed high block d now top none near low (same, is) =
    same ∙ ap (with_payload d) (is ∙ ap (λ o. with_block o d.payload) (sym (none refl)))
taken_block (Some r) passed high block d now top none near low (same, (other, also, is)) =
    let one : other ≡ high = one_greatest _ other high also top in
    same ∙ ap (with_payload d) (is ∙ ap (λ k. unrolled_payload r k d.payload) one ∙ sym (near r refl low))
