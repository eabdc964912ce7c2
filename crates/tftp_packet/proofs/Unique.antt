-- A payload spells one message at most.
use Rattle.std.proofs.Common.{◌≡◌, ◌⊎◌, inl, inr, ℕ, ◌<◌, List, [], ◌∷◌, refl, sym, ap, ◌∙◌, arith}
use Rattle.tftp_packet.specs.{OptionMap, lower, RequestParts, Message, Request, Data, Ack, Error, Oack, terminated, strings, pair_strings, map_of, side_opcode, mode_name, SpellsRequest, SpellsOack, Layout, opcode_of, Side, Get, Put, Mode, Octet, Netascii}
use Rattle.tftp_packet.proofs.PairStrings.{pair_strings_injective}
use Rattle.tftp_packet.proofs.Strings.{split_unique, strings_injective}

pub side_opcode_injective : (a b : Side) → side_opcode a ≡ side_opcode b → a ≡ b
side_opcode_injective Get Put e = absurd (omega arith)
side_opcode_injective Put Get e = absurd (omega arith)
side_opcode_injective _ _ e = refl

pub mode_name_injective : (a b : Mode) → mode_name a ≡ mode_name b → a ≡ b
mode_name_injective Octet Netascii e = absurd (let f : ⊥ = cc in f)
mode_name_injective Netascii Octet e = absurd (let f : ⊥ = cc in f)
mode_name_injective _ _ e = refl

-- the opcode of a message's spelling
abbrev pub message_opcode : Message → ℕ
message_opcode (Request request) = side_opcode request.side
message_opcode (Data block bytes) = 3
message_opcode (Ack block) = 4
message_opcode (Error code message) = 5
message_opcode (Oack options) = 6

pub side_opcodes : (side : Side) → (side_opcode side ≡ 1) ⊎ (side_opcode side ≡ 2)
side_opcodes Get = inl refl
side_opcodes Put = inr refl

pub layout_opcode : (payload : List ℕ) (m : Message) → Layout payload m → opcode_of payload ≡ message_opcode m
layout_opcode payload (Request request) p = ap opcode_of p.bytes ∙ omega arith
layout_opcode payload (Data block bytes) (x, y, is, e) = ap opcode_of e
layout_opcode payload (Ack block) (x, y, is, e) = ap opcode_of e
layout_opcode payload (Error code message) (x, y, is, string, e) = ap opcode_of e
layout_opcode payload (Oack options) p = ap opcode_of p.bytes

same_request : (payload : List ℕ) (a b : RequestParts) → SpellsRequest payload a → SpellsRequest payload b → a ≡ b
same_request payload a b p q =
    let both : 0 ∷ side_opcode a.side ∷ strings (a.name ∷ p.mode_text ∷ pair_strings p.pairs) ≡ 0 ∷ side_opcode b.side ∷ strings (b.name ∷ q.mode_text ∷ pair_strings q.pairs) = sym p.bytes ∙ q.bytes in
    let opcodes : side_opcode a.side ≡ side_opcode b.side = cc in
    let bodies : strings (a.name ∷ p.mode_text ∷ pair_strings p.pairs) ≡ strings (b.name ∷ q.mode_text ∷ pair_strings q.pairs) = cc in
    let all = strings_injective (a.name ∷ p.mode_text ∷ pair_strings p.pairs) (b.name ∷ q.mode_text ∷ pair_strings q.pairs) p.strung q.strung bodies in
    let names : a.name ≡ b.name = cc in
    let texts : p.mode_text ≡ q.mode_text = cc in
    let tails : pair_strings p.pairs ≡ pair_strings q.pairs = cc in
    let side = side_opcode_injective a.side b.side opcodes in
    let mode = mode_name_injective a.mode b.mode (sym p.mode ∙ ap lower texts ∙ q.mode) in
    let options : a.options ≡ b.options = p.options ∙ ap map_of (pair_strings_injective p.pairs q.pairs tails) ∙ sym q.options in
    λ i. record { side = side i; name = names i; mode = mode i; options = options i }

same_oack : (payload : List ℕ) (a b : OptionMap) → SpellsOack payload a → SpellsOack payload b → a ≡ b
same_oack payload a b p q =
    let both : 0 ∷ 6 ∷ strings (pair_strings p.pairs) ≡ 0 ∷ 6 ∷ strings (pair_strings q.pairs) = sym p.bytes ∙ q.bytes in
    let bodies : strings (pair_strings p.pairs) ≡ strings (pair_strings q.pairs) = cc in
    let all = strings_injective (pair_strings p.pairs) (pair_strings q.pairs) p.strung q.strung bodies in
    p.map ∙ ap map_of (pair_strings_injective p.pairs q.pairs all) ∙ sym q.map

apart : (payload : List ℕ) (m n : Message) → Layout payload m → Layout payload n → (message_opcode m ≡ message_opcode n → ⊥) → m ≡ n
apart payload m n p q differ = absurd (differ (sym (layout_opcode payload m p) ∙ layout_opcode payload n q))

not_request : (side : Side) (k : ℕ) → 2 < k → side_opcode side ≡ k → ⊥
not_request Get k more e = omega arith
not_request Put k more e = omega arith

pub one_message : (payload : List ℕ) (m n : Message) → Layout payload m → Layout payload n → m ≡ n
one_message payload (Request a) (Request a') p q = ap Request (same_request payload a a' p q)
one_message payload (Request a) (Data block' bytes') p q = apart payload (Request a) (Data block' bytes') p q (not_request a.side 3 (omega arith))
one_message payload (Request a) (Ack block') p q = apart payload (Request a) (Ack block') p q (not_request a.side 4 (omega arith))
one_message payload (Request a) (Error code' message') p q = apart payload (Request a) (Error code' message') p q (not_request a.side 5 (omega arith))
one_message payload (Request a) (Oack options') p q = apart payload (Request a) (Oack options') p q (not_request a.side 6 (omega arith))
one_message payload (Data block bytes) (Request a') p q = apart payload (Data block bytes) (Request a') p q (λ e. not_request a'.side 3 (omega arith) (sym e))
one_message payload (Data block bytes) (Data block' bytes') (x, y, is, e) (x', y', is', e') =
    let both : 0 ∷ 3 ∷ x ∷ y ∷ bytes ≡ 0 ∷ 3 ∷ x' ∷ y' ∷ bytes' = sym e ∙ e' in
    let high : x ≡ x' = cc in
    let low : y ≡ y' = cc in
    let tail : bytes ≡ bytes' = cc in
    let number : block ≡ block' = omega arith in
    λ i. Data (number i) (tail i)
one_message payload (Data block bytes) (Ack block') p q = apart payload (Data block bytes) (Ack block') p q (λ e. omega arith)
one_message payload (Data block bytes) (Error code' message') p q = apart payload (Data block bytes) (Error code' message') p q (λ e. omega arith)
one_message payload (Data block bytes) (Oack options') p q = apart payload (Data block bytes) (Oack options') p q (λ e. omega arith)
one_message payload (Ack block) (Request a') p q = apart payload (Ack block) (Request a') p q (λ e. not_request a'.side 4 (omega arith) (sym e))
one_message payload (Ack block) (Data block' bytes') p q = apart payload (Ack block) (Data block' bytes') p q (λ e. omega arith)
one_message payload (Ack block) (Ack block') (x, y, is, e) (x', y', is', e') =
    let both : 0 ∷ 4 ∷ x ∷ y ∷ [] ≡ 0 ∷ 4 ∷ x' ∷ y' ∷ [] = sym e ∙ e' in
    let high : x ≡ x' = cc in
    let low : y ≡ y' = cc in
    let number : block ≡ block' = omega arith in
    ap Ack number
one_message payload (Ack block) (Error code' message') p q = apart payload (Ack block) (Error code' message') p q (λ e. omega arith)
one_message payload (Ack block) (Oack options') p q = apart payload (Ack block) (Oack options') p q (λ e. omega arith)
one_message payload (Error code message) (Request a') p q = apart payload (Error code message) (Request a') p q (λ e. not_request a'.side 5 (omega arith) (sym e))
one_message payload (Error code message) (Data block' bytes') p q = apart payload (Error code message) (Data block' bytes') p q (λ e. omega arith)
one_message payload (Error code message) (Ack block') p q = apart payload (Error code message) (Ack block') p q (λ e. omega arith)
one_message payload (Error code message) (Error code' message') (x, y, is, string, e) (x', y', is', string', e') =
    let both : 0 ∷ 5 ∷ x ∷ y ∷ terminated message ≡ 0 ∷ 5 ∷ x' ∷ y' ∷ terminated message' = sym e ∙ e' in
    let high : x ≡ x' = cc in
    let low : y ≡ y' = cc in
    let tail : terminated message ≡ terminated message' = cc in
    let number : code ≡ code' = omega arith in
    let text = (split_unique message message' [] [] string string' tail).0 in
    λ i. Error (number i) (text i)
one_message payload (Error code message) (Oack options') p q = apart payload (Error code message) (Oack options') p q (λ e. omega arith)
one_message payload (Oack options) (Request a') p q = apart payload (Oack options) (Request a') p q (λ e. not_request a'.side 6 (omega arith) (sym e))
one_message payload (Oack options) (Data block' bytes') p q = apart payload (Oack options) (Data block' bytes') p q (λ e. omega arith)
one_message payload (Oack options) (Ack block') p q = apart payload (Oack options) (Ack block') p q (λ e. omega arith)
one_message payload (Oack options) (Error code' message') p q = apart payload (Oack options) (Error code' message') p q (λ e. omega arith)
one_message payload (Oack options) (Oack options') p q = ap Oack (same_oack payload options options' p q)
