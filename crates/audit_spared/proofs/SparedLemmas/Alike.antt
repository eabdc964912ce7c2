-- Two spellings of one request are of one side and name one file.
use Rattle.std.proofs.Common.{◌≡◌, ℕ, ◌+◌, suc, true, List, [], ◌∷◌, ◌++◌, Some, None, cond, refl, sym, ap, ◌∙◌, ◌==◌, not, length, take, arith, ne_eqb, lt-ltb, nat_lt, length-append, append_assoc, position}
use Rattle.std.specs.List.{position_or_len}
use Rattle.std.proofs.Math.Seq.{take-append_seam}
use Rattle.tftp_packet.specs.{Message, RequestParts, Spells}
use Rattle.tftp_packet.specs.Written.{IsString, strings, pair_strings}
use Rattle.tftp_packet.specs.Spelling.{side_opcode}
use Rattle.audit_flows.specs.Lines.{asked_part}

-- the first zero stands behind the name
zero_behind : (name rest : List ℕ) → IsString name → position_or_len (λ b. b == 0) (name ++ 0 ∷ rest) ≡ length name
zero_behind [] rest free = refl
zero_behind (x ∷ name) rest free =
    let more : 1 + length name ≡ length (x ∷ name) = omega arith in
    ap (λ b. cond (not b) (1 + position_or_len (λ c. c == 0) (name ++ 0 ∷ rest)) 0) (ne_eqb x 0 free.0) ∙ ap (λ n. 1 + n) (zero_behind name rest free.1) ∙ more

behind_there : (name rest : List ℕ) → IsString name → position (λ b. b == 0) (name ++ 0 ∷ rest) ≡ Some (length name)
behind_there name rest free =
    let more : length (name ++ 0 ∷ rest) ≡ length name + length (0 ∷ rest) = length-append name (0 ∷ rest) in
    let within : nat_lt (length name) (length (name ++ 0 ∷ rest)) ≡ true = lt-ltb (length name) (length (name ++ 0 ∷ rest)) (omega arith) in
    ap (λ n. cond (nat_lt n (length (name ++ 0 ∷ rest))) (Some n) None) (zero_behind name rest free)
    ∙ ap (λ b. cond b (Some (length name)) None) within

front_taken : (code : ℕ) (name rest : List ℕ) → take (length name + 2) (0 ∷ code ∷ (name ++ 0 ∷ rest)) ≡ 0 ∷ code ∷ name
front_taken code name rest =
    let two : length name + 2 ≡ suc (suc (length name)) = omega arith in
    ap (λ n. take n (0 ∷ code ∷ (name ++ 0 ∷ rest))) two ∙ ap (λ l. 0 ∷ code ∷ l) (take-append_seam name (0 ∷ rest))

asked_front : (code : ℕ) (name rest : List ℕ) → IsString name → asked_part (0 ∷ code ∷ (name ++ 0 ∷ rest)) ≡ 0 ∷ code ∷ name
asked_front code name rest free = rw (behind_there name rest free) (front_taken code name rest)

-- the name stands first among the strings
name_first : (name : List ℕ) (more : List (List ℕ)) → strings (name ∷ more) ≡ name ++ 0 ∷ strings more
name_first name more = append_assoc name (0 ∷ []) (strings more)

asked_of : (payload : List ℕ) (r : RequestParts) → Spells payload (Message.Request r) → asked_part payload ≡ 0 ∷ side_opcode r.side ∷ r.name
asked_of payload r is =
    let s = is.1 in
    ap asked_part (s.bytes ∙ ap (λ l. 0 ∷ side_opcode r.side ∷ l) (name_first r.name (s.mode_text ∷ pair_strings s.pairs)))
    ∙ asked_front (side_opcode r.side) r.name (strings (s.mode_text ∷ pair_strings s.pairs)) s.strung.0

pub asked_alike : (a b : List ℕ) (r : RequestParts) → Spells a (Message.Request r) → Spells b (Message.Request r) → asked_part a ≡ asked_part b
asked_alike a b r one other = asked_of a r one ∙ sym (asked_of b r other)
