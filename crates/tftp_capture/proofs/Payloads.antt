-- Hex digits and the payload that they spell.
use Rattle.std.proofs.Common.{◌≡◌, ◌≢◌, ℕ, ◌*◌, ◌%◌, ◌==◌, ◌⊎◌, inl, inr, true, false, true≢false, List, [], ◌∷◌, length, codes, sym, ap, ◌∙◌, refl, arith, Result, Ok, Err, OnOk, is_err}
use Rattle.std.proofs.lemmas.Bool.Decides.{nat_tests}
use Rattle.std.specs.List.{list_all, AllPass}
use Rattle.std.specs.Char.{is_ascii_hexdigit}
use Rattle.std.proofs.lemmas.List.Elements.{All-weaker}
use Rattle.std.proofs.lemmas.List.Splits.{slice_split_none}
use Rattle.std.proofs.lemmas.List.Sums.{AllPass-from_list_all, list_all-from_AllPass}
use Rattle.hex.specs.Hex.{is_hex_digit}
use Rattle.hex.proofs.HexLemmas.{decode_of-digits, decode_of-ok}
use Rattle.tftp_capture.specs.{LineError, SpellsPayload, pieces, PayloadEnds, filled}

is_digit : (c : ℕ) → is_ascii_hexdigit c ≡ true → is_hex_digit c ≡ true
is_digit c h = grind (arith, nat_tests)

digit_is : (c : ℕ) → is_hex_digit c ≡ true → is_ascii_hexdigit c ≡ true
digit_is c h = grind (arith, nat_tests)

pub no_bytes : (bytes : List ℕ) → length bytes ≡ 0 → bytes ≡ []
no_bytes [] e = refl
no_bytes (b ∷ bs) e = absurd (omega (arith, e))

-- digits in pairs spell a payload
pub some_payload : (digits : List ℕ) → length digits ≢ 0 → length digits % 2 ≢ 1 → list_all is_ascii_hexdigit digits ≡ true → (payload : List ℕ) × SpellsPayload digits payload × (length digits ≡ 2 * length payload)
some_payload digits some even all =
    let even : length digits % 2 ≡ 0 = omega arith in
    let pass : AllPass is_hex_digit digits = All-weaker (λ c. is_ascii_hexdigit c ≡ true) (λ c. is_hex_digit c ≡ true) is_digit digits (AllPass-from_list_all is_ascii_hexdigit digits all) in
    let found = decode_of-digits digits even pass in
    let size = decode_of-ok digits found.0 found.1 in
    (found.0, inr (λ e. some (omega (arith, size.2, ap length e)), found.1), size.2)

-- what are no digits in pairs spells no payload
pub no_payload : (digits payload : List ℕ) → digits ≢ codes "-" → SpellsPayload digits payload → (length digits ≡ 0) ⊎ ((length digits % 2 ≡ 1) ⊎ (list_all is_ascii_hexdigit digits ≡ false)) → ⊥
no_payload digits payload other (inl s) wrong = other s.0
no_payload digits payload other (inr s) wrong =
    let is = decode_of-ok digits payload s.1 in
    let all = list_all-from_AllPass is_ascii_hexdigit digits (All-weaker (λ c. is_hex_digit c ≡ true) (λ c. is_ascii_hexdigit c ≡ true) digit_is digits is.1) in
    elim wrong as (λ _. ⊥) [
      | inl none ↦ s.0 (no_bytes payload (omega (arith, none, is.2)))
      | inr (inl odd) ↦ absurd (omega (arith, odd, is.0))
      | inr (inr other) ↦ true≢false (sym all ∙ other)
    ]

digit_no_space : (c : ℕ) → is_hex_digit c ≡ true → (c == 32) ≡ false
digit_no_space c h = grind (arith, nat_tests)

-- what spells a payload is one piece
pub payload_whole : (digits payload : List ℕ) → SpellsPayload digits payload → pieces digits ≡ digits ∷ []
payload_whole digits payload (inl s) = rw s.0 refl
payload_whole digits payload (inr s) = slice_split_none (λ b. b == 32) digits (All-weaker (λ c. is_hex_digit c ≡ true) (λ c. (c == 32) ≡ false) digit_no_space digits (decode_of-ok digits payload s.1).1)

-- the same of digits by which a payload was filled
pub filled_whole : (digits payload : List ℕ) (ended : Result (Unit {0}) LineError) → PayloadEnds (filled ended payload) digits → OnOk ended (pieces digits ≡ digits ∷ [])
filled_whole digits payload (Ok _) p = payload_whole digits payload p.0
filled_whole digits payload (Err _) p = tt

pub ok_whole : (digits : List ℕ) (ended : Result (Unit {0}) LineError) → OnOk ended (pieces digits ≡ digits ∷ []) → is_err ended ≡ false → pieces digits ≡ digits ∷ []
ok_whole digits (Ok _) p e = p
ok_whole digits (Err _) p e = absurd (true≢false e)
