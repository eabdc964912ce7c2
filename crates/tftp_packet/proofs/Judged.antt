-- From what the parts of `read_packet` answer to what it promises.
use Rattle.std.proofs.Common.{◌≡◌, ◌≢◌, ◌↔◌, inl, inr, ℕ, ◌+◌, ◌-◌, ◌*◌, ◌/◌, ◌%◌, ◌∙◌, ◌<◌, ◌≤◌, List, [], ◌∷◌, sym, length, take, drop, get_or, ap, subst, arith, Fits, w8, Result, Ok, Err, IfOk, IsOkAnd}
use Rattle.std.specs.List.{AllByRecursion}
use Rattle.std.proofs.lemmas.List.Elements.{recursion_from_All, All-from_get_or}
use Rattle.std.proofs.lemmas.List.{take_all}
use Rattle.tftp_packet.specs.{IsString, terminated, Message, meaning, Spells, IsPair, IsPlace, bytes_in, Holds, FirstFault, opcode_of, IsWritten, Judges, Packet, PacketFault, Short, Opcode, NoTerminator}
use Rattle.byteorder.specs.Endian.{big_number}
use Rattle.tftp_packet.proofs.FaultOrder.{first_fault_unique, first_fault}
use Rattle.tftp_packet.proofs.Unique.{one_message}
use Rattle.tftp_packet.proofs.NoFault.{no_fault}

-- the bytes of a payload are bytes
pub all_bytes : (payload : List ℕ) → ((i : ℕ) → Fits w8 (get_or payload i 0)) → AllByRecursion (λ b. b < 256) payload
all_bytes payload fits = recursion_from_All (λ b. b < 256) payload (All-from_get_or (λ b. b < 256) payload 0 (λ i h. omega (arith, fits i)))

-- what are bytes in each case, where all are
pub bytes_but : (m : Message) (payload : List ℕ) → AllByRecursion (λ b. b < 256) payload → AllByRecursion (λ b. b < 256) (bytes_in m payload)
bytes_but (Message.Request request) payload all = all
bytes_but (Message.Error code message) payload all = all
bytes_but (Message.Oack options) payload all = all
bytes_but (Message.Data block bytes) [] all = all
bytes_but (Message.Data block bytes) (a ∷ []) all = all
bytes_but (Message.Data block bytes) (a ∷ b ∷ []) all = all
bytes_but (Message.Data block bytes) (a ∷ b ∷ c ∷ rest) all = (all.0, (all.1.0, all.1.1.1))
bytes_but (Message.Ack block) [] all = all
bytes_but (Message.Ack block) (a ∷ []) all = all
bytes_but (Message.Ack block) (a ∷ b ∷ []) all = all
bytes_but (Message.Ack block) (a ∷ b ∷ c ∷ rest) all = (all.0, (all.1.0, all.1.1.1))

pub found_of : (payload : List ℕ) (r : Result Packet PacketFault) → AllByRecursion (λ b. b < 256) payload → Judges payload r → IfOk r (λ p. Spells payload (meaning p))
found_of payload (Ok p) bytes judged = (bytes_but (meaning p) payload bytes, judged.0)
found_of payload (Err f) bytes judged = tt

pub written_of : (payload : List ℕ) (r : Result Packet PacketFault) → Judges payload r → IfOk r (IsWritten payload)
written_of payload (Ok p) judged = judged.1
written_of payload (Err f) judged = tt

pub only_of : (payload : List ℕ) (r : Result Packet PacketFault) → Judges payload r → (m : Message) → Spells payload m → IsOkAnd r (λ p. meaning p ≡ m)
only_of payload (Ok p) judged m spelled = one_message payload (meaning p) m judged.0 spelled.1
only_of payload (Err f) judged m spelled = absurd (no_fault payload m f spelled.1 judged.0)

pub fault_of : (payload : List ℕ) (r : Result Packet PacketFault) → Judges payload r → (f : PacketFault) → (r ≡ Err f) ↔ FirstFault payload f
fault_of payload (Ok p) judged f = ((λ e. absurd (let x : ⊥ = cc in x)), λ first. absurd (no_fault payload (meaning p) f judged.0 first.0))
fault_of payload (Err g) judged f = ((λ e. let same : g ≡ f = cc in subst (FirstFault payload) same judged), λ first. ap Err (first_fault_unique payload g f judged first))

-- too short for an opcode, or with an opcode that no packet has
pub judged_short : (payload : List ℕ) → length payload < 2 → FirstFault payload Short
judged_short payload short = first_fault payload Short (inl short)

-- the bytes after an opcode
pub after_opcode : (payload : List ℕ) (k : ℕ) → opcode_of payload ≡ k → 0 < k → k < 256 → AllByRecursion (λ b. b < 256) payload → payload ≡ 0 ∷ k ∷ take (length payload - 2) (drop 2 payload)
after_opcode [] k is low high bytes = absurd (omega arith)
after_opcode (x ∷ []) k is low high bytes = absurd (omega arith)
after_opcode (x ∷ y ∷ rest) k is low high bytes =
    let zero : x ≡ 0 = omega arith in
    let same : y ≡ k = omega arith in
    let all : take (length (x ∷ y ∷ rest) - 2) rest ≡ rest = take_all (length (x ∷ y ∷ rest) - 2) rest (omega arith) in
    λ i. zero i ∷ same i ∷ sym all i

-- an error's bytes after its code
pub error_parts : (payload : List ℕ) → opcode_of payload ≡ 5 → AllByRecursion (λ b. b < 256) payload → 4 ≤ length payload
    → (payload ≡ 0 ∷ 5 ∷ get_or payload 2 0 ∷ get_or payload 3 0 ∷ take (length payload - 4) (drop 4 payload)) × (get_or payload 2 0 < 256) × (get_or payload 3 0 < 256)
error_parts [] is bytes long = absurd (omega arith)
error_parts (x ∷ []) is bytes long = absurd (omega arith)
error_parts (x ∷ y ∷ []) is bytes long = absurd (omega arith)
error_parts (x ∷ y ∷ u ∷ []) is bytes long = absurd (omega arith)
error_parts (x ∷ y ∷ u ∷ v ∷ rest) is bytes long =
    let zero : x ≡ 0 = omega arith in
    let same : y ≡ 5 = omega arith in
    let all : take (length (x ∷ y ∷ u ∷ v ∷ rest) - 4) rest ≡ rest = take_all (length (x ∷ y ∷ u ∷ v ∷ rest) - 4) rest (omega arith) in
    ((λ i. zero i ∷ same i ∷ u ∷ v ∷ sym all i), bytes.1.1.0, bytes.1.1.1.0)

pub error_fault : (payload text : List ℕ) (x y : ℕ) → (payload ≡ 0 ∷ 5 ∷ x ∷ y ∷ text) × (x < 256) × (y < 256) → ((message : List ℕ) → IsString message → text ≢ terminated message)
    → FirstFault payload NoTerminator
error_fault payload text x y parts never = first_fault payload NoTerminator (inr (inr (x, y, text, parts.0, never))) not_short not_opcode (λ ack. omega (arith, five, ack.0))
  where
    five : opcode_of payload ≡ 5
    five = ap opcode_of parts.0

    not_short : Holds Short payload → ⊥
    not_short (inl short) = omega (arith, ap length parts.0)
    not_short (inr (op, short)) = omega (arith, ap length parts.0)

    not_opcode : Holds Opcode payload → ⊥
    not_opcode (inl op) = omega (arith, five)
    not_opcode (inr op) = omega (arith, five)

pub as_place : (payload rest : List ℕ) (k n : ℕ) → ((x y : ℕ) × IsPair x y n × (payload ≡ 0 ∷ k ∷ x ∷ y ∷ rest)) → ((x y : ℕ) × IsPlace x y n × (payload ≡ 0 ∷ k ∷ x ∷ y ∷ rest))
as_place payload rest k n (x, y, is, e) = (x, y, (omega arith, omega arith), e)

-- the number of bytes 2 and 3, and the bytes after them
abbrev pub Numbered : List ℕ → ℕ → ℕ → Type 0
Numbered payload k n =
    ((x y : ℕ) × IsPair x y n × (payload ≡ 0 ∷ k ∷ x ∷ y ∷ take (length payload - 4) (drop 4 payload)))
    × (payload ≡ 0 ∷ k ∷ n / 256 ∷ n % 256 ∷ take (length payload - 4) (drop 4 payload))

pub numbered : (payload : List ℕ) (k n : ℕ) → opcode_of payload ≡ k → 0 < k → k < 256 → AllByRecursion (λ b. b < 256) payload → 4 ≤ length payload
    → n ≡ big_number 2 (take (length payload - 2) (drop 2 payload)) → Numbered payload k n
numbered [] k n is low high bytes long number = absurd (omega arith)
numbered (x ∷ []) k n is low high bytes long number = absurd (omega arith)
numbered (x ∷ y ∷ []) k n is low high bytes long number = absurd (omega arith)
numbered (x ∷ y ∷ u ∷ []) k n is low high bytes long number = absurd (omega arith)
numbered (x ∷ y ∷ u ∷ v ∷ rest) k n is low high bytes long number =
    let zero : x ≡ 0 = omega arith in
    let same : y ≡ k = omega arith in
    let after : take (length (x ∷ y ∷ u ∷ v ∷ rest) - 2) (u ∷ v ∷ rest) ≡ u ∷ v ∷ rest = take_all (length (x ∷ y ∷ u ∷ v ∷ rest) - 2) (u ∷ v ∷ rest) (omega arith) in
    let all : take (length (x ∷ y ∷ u ∷ v ∷ rest) - 4) rest ≡ rest = take_all (length (x ∷ y ∷ u ∷ v ∷ rest) - 4) rest (omega arith) in
    let big : u < 256 = bytes.1.1.0 in
    let little : v < 256 = bytes.1.1.1.0 in
    let whole : n ≡ 256 * u + v = omega (arith, number ∙ ap (big_number 2) after) in
    let upper : u ≡ n / 256 = omega arith in
    let lower : v ≡ n % 256 = omega arith in (
      (u, v, (big, little, whole), λ i. zero i ∷ same i ∷ u ∷ v ∷ sym all i),
      λ i. zero i ∷ same i ∷ upper i ∷ lower i ∷ sym all i,
    )
