-- The decimal digits of a port.
use Rattle.std.proofs.Common.{◌≡◌, ◌≢◌, ℕ, ◌<◌, ◌≤◌, List, length, take, get_or, decimal, sym, ap, ◌∙◌, subst, arith, length-take-le}
use Rattle.std.specs.Str.Parse.{AllDigits, IsNumeral, digits_value}
use Rattle.std.proofs.lemmas.Fmt.{decimal_digit, decimal_is_IsNumeral, decimal-digits_value, first_decimal, length-decimal-le}
use Rattle.std.proofs.lemmas.Str.Parse.{digits_value_short, numerals_by_value, tells_digits}
use Rattle.tftp_capture.specs.{SpellsPort}

-- what spells a port is a numeral, of its number
pub port_is_numeral : (text : List ℕ) (port : ℕ) → SpellsPort text port → IsNumeral 10 text × (digits_value 10 text ≡ port)
port_is_numeral text port h = subst (λ t. IsNumeral 10 t × (digits_value 10 t ≡ port)) (sym h.1) (decimal_is_IsNumeral port (omega (arith, h.0.1)))

-- and begins with no zero
pub port_first : (text : List ℕ) (port : ℕ) → SpellsPort text port → 48 < get_or text 0 0
port_first text port h = subst (λ t. 48 < get_or t 0 0) (sym h.1) (first_decimal port (omega (arith, h.0.0)) (omega (arith, h.0.1)))

-- and is no longer than five digits
pub port_short : (text : List ℕ) (port : ℕ) → SpellsPort text port → length text ≤ 5
port_short text port h = subst (λ t. length t ≤ 5) (sym h.1) (length-decimal-le 5 port (omega arith) (omega (arith, h.0.1)) (omega (arith, h.0.1)))

-- the first of at most five digits are below 10,000 where one more comes
pub few_digits : (text : List ℕ) (i : ℕ) → AllDigits 10 (take i text) → i < length text → length text ≤ 5 → digits_value 10 (take i text) < 10000
few_digits text i digits more few =
    let size = length-take-le i text (omega arith) in
    digits_value_short (numerals_by_value _ tells_digits) (take i text) 4 digits (omega (arith, size))

-- digits without a leading zero spell the port of their number
pub spells_port : (text : List ℕ) (number : ℕ) → AllDigits 10 text → number ≡ digits_value 10 text → number ≤ 65535 → 0 < length text → get_or text 0 0 ≢ 48 → SpellsPort text number
spells_port text number digits is high some first =
    let text_is : decimal (digits_value 10 text) ≡ text = decimal-digits_value (numerals_by_value _ tells_digits) text digits some (λ e. absurd (first e)) (omega arith) in
    let written : text ≡ decimal number = sym text_is ∙ ap decimal (sym is) in
    let low : number ≢ 0 = λ e. first (ap (λ t. get_or t 0 0) (written ∙ ap decimal e ∙ decimal_digit 0 (omega arith))) in
    ((omega (arith, low), high), written)
