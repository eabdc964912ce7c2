-- Which texts are numbers, and of which options.
use Rattle.std.proofs.Common.{◌≡◌, ◌≢◌, inl, inr, ℕ, ◌+◌, ◌-◌, ◌*◌, ◌^◌, ◌<◌, ◌≤◌, Bool, true, false, cond, leb, List, [], ◌∷◌, ◌++◌, length, get_or, take, drop, Option, Some, None, refl, sym, ap, subst, ◌∙◌, arith, ◌&&◌, codes, bytes_eq}
use Rattle.std.specs.Char.{digit_value, is_ascii_digit}
use Rattle.std.specs.List.{list_all}
use Rattle.std.specs.Str.Parse.{AllDigits, IsNumeral, digits_value, digits_value_after}
use Rattle.std.proofs.lemmas.Bool.{false≢true, lt-ltb, le-ltb, le-leb, leb-true, and_parts, and_right, cases_Bool}
use Rattle.std.proofs.lemmas.List.{take-append-drop}
use Rattle.std.proofs.lemmas.Str.Parse.{digit_from_value, digit_at}
use Rattle.std.proofs.lemmas.Slice.Eq.{bytes_eq-Decides}
use Rattle.tftp_packet.specs.{range_of, is_within, is_number, is_known_number, value_of, number_in, Num, Text}

-- ---- the bytes of names
pub bytes_eq_no : (x y : List ℕ) → x ≢ y → bytes_eq x y ≡ false
bytes_eq_no x y differ = elim (cases_Bool (bytes_eq x y)) [ inl same ↦ absurd (differ ((bytes_eq-Decides x y).0 same)) | inr other ↦ other ]

pub no_range : (name : List ℕ) → name ≢ codes "blksize" → name ≢ codes "timeout" → name ≢ codes "tsize" → name ≢ codes "windowsize" → None ≡ range_of name
unfolding range_of
no_range name a b c d = rw (bytes_eq_no name (codes "blksize") a, bytes_eq_no name (codes "timeout") b, bytes_eq_no name (codes "tsize") c, bytes_eq_no name (codes "windowsize") d) refl

abbrev pub is_below : Option (ℕ × ℕ) → Type 0
is_below None = Unit {0}
is_below (Some range) = range.1 < 2 ^ 64

one_below : (b : Bool) (range : ℕ × ℕ) (o : Option (ℕ × ℕ)) → range.1 < 2 ^ 64 → is_below o → is_below (cond b (Some range) o)
one_below true range o h k = h
one_below false range o h k = k

pub range_below : (name : List ℕ) → is_below (range_of name)
unfolding range_of
range_below name =
    let fourth = cond (bytes_eq name (codes "windowsize")) (Some (1, 65535)) None in
    let third = cond (bytes_eq name (codes "tsize")) (Some (0, 18446744073709551615)) fourth in
    let second = cond (bytes_eq name (codes "timeout")) (Some (1, 255)) third in
    one_below (bytes_eq name (codes "blksize")) (8, 65464) second (omega arith)
    (one_below (bytes_eq name (codes "timeout")) (1, 255) third (omega arith)
    (one_below (bytes_eq name (codes "tsize")) (0, 18446744073709551615) fourth (omega arith)
    (one_below (bytes_eq name (codes "windowsize")) (1, 65535) None (omega arith) tt)))

-- ---- digits
pub digit_is : (c : ℕ) → 48 ≤ c → c ≤ 57 → digit_value c ≡ c - 48
digit_is c low high = rw (le-ltb c 48 low, lt-ltb c 58 (omega arith)) refl

value_after_ge : (n : ℕ) (cs : List ℕ) → n ≤ digits_value_after 10 n cs
value_after_ge n [] = omega arith
value_after_ge n (c ∷ cs) = omega (arith, value_after_ge (n * 10 + digit_value c) cs)

value_after_append : (n : ℕ) (xs ys : List ℕ) → digits_value_after 10 n (xs ++ ys) ≡ digits_value_after 10 (digits_value_after 10 n xs) ys
value_after_append n [] ys = refl
value_after_append n (x ∷ xs) ys = value_after_append (n * 10 + digit_value x) xs ys

-- what more digits write is no less
pub value_grows : (text : List ℕ) (i : ℕ) → digits_value 10 (take i text) ≤ digits_value 10 text
value_grows text i = subst (λ t. digits_value 10 (take i text) ≤ digits_value 10 t) (take-append-drop i text)
    (subst (λ n. digits_value 10 (take i text) ≤ n) (sym (value_after_append 0 (take i text) (drop i text))) (value_after_ge (digits_value 10 (take i text)) (drop i text)))

digit_yes : (c : ℕ) → digit_value c < 10 → is_ascii_digit c ≡ true
digit_yes c h = let r = digit_from_value c h in rw (le-leb 48 c r.0, le-leb c 57 r.1) refl

pub digit_no : (c : ℕ) → is_ascii_digit c ≡ true → digit_value c < 10
digit_no c h = let r = and_parts _ _ h in let low = leb-true 48 c r.0 in let high = leb-true c 57 r.1 in omega (arith, digit_is c low high)

digits_yes : (cs : List ℕ) → AllDigits 10 cs → list_all is_ascii_digit cs ≡ true
digits_yes [] h = refl
digits_yes (c ∷ cs) h = rw (digit_yes c h.0, digits_yes cs h.1) refl

digits_no : (cs : List ℕ) → list_all is_ascii_digit cs ≡ true → AllDigits 10 cs
digits_no [] h = tt
digits_no (c ∷ cs) h = let r = and_parts (is_ascii_digit c) (list_all is_ascii_digit cs) h in (digit_no c r.0, digits_no cs r.1)

pub number_of_numeral : (text : List ℕ) → IsNumeral 10 text → is_number text ≡ true
unfolding is_number
number_of_numeral [] h = absurd (omega (arith, h.0))
number_of_numeral (c ∷ cs) h = digits_yes (c ∷ cs) h.1

pub numeral_of_number : (text : List ℕ) → is_number text ≡ true → IsNumeral 10 text
unfolding is_number
numeral_of_number [] h = absurd (false≢true h)
numeral_of_number (c ∷ cs) h = (omega arith, digits_no (c ∷ cs) h)

pub no_digit : (text : List ℕ) (i : ℕ) → i < length text → is_ascii_digit (get_or text i 0) ≡ false → IsNumeral 10 text → ⊥
no_digit text i h other numeral =
    let r = digit_at text i numeral.1 h in false≢true (sym other ∙ (rw (le-leb 48 (get_or text i 0) r.0, le-leb (get_or text i 0) 57 r.1) refl))

-- ---- what a text is under a name
module _ (name text : List ℕ) where
  no_number : is_known_number name text ≡ false → None ≡ number_in (value_of name text)
  unfolding value_of
  no_number e = rw e refl

  pub unknown_name : None ≡ range_of name → None ≡ number_in (value_of name text)
  unfolding is_known_number
  unknown_name e = no_number (and_right (is_number text) _ (ap (λ o. is_within o (digits_value 10 text)) (sym e)))

  module _ (range : ℕ × ℕ) (known : Some range ≡ range_of name) where
    below : range.1 < 2 ^ 64
    below = subst is_below (sym known) (range_below name)

    within : is_within (range_of name) (digits_value 10 text) ≡ (leb range.0 (digits_value 10 text) && leb (digits_value 10 text) range.1)
    within = ap (λ o. is_within o (digits_value 10 text)) (sym known)

    pub no_numeral : (IsNumeral 10 text × (digits_value 10 text < 2 ^ 64) → ⊥) → None ≡ number_in (value_of name text)
    unfolding is_known_number
    no_numeral never = no_number (elim (cases_Bool (is_number text && is_within (range_of name) (digits_value 10 text))) [
      | inl both ↦ absurd (
          let parts = and_parts (is_number text) _ both in
          let high = leb-true (digits_value 10 text) range.1 (and_parts _ _ (sym within ∙ parts.1)).1 in
          let top = below in
          never (numeral_of_number text parts.0, omega arith))
      | inr other ↦ other
    ])

    pub out_of_range : (range.0 ≤ digits_value 10 text → digits_value 10 text ≤ range.1 → ⊥) → None ≡ number_in (value_of name text)
    unfolding is_known_number
    out_of_range never = no_number (elim (cases_Bool (is_number text && is_within (range_of name) (digits_value 10 text))) [
      | inl both ↦ absurd (
          let parts = and_parts (is_number text) _ both in
          let inside = and_parts _ _ (sym within ∙ parts.1) in
          never (leb-true range.0 (digits_value 10 text) inside.0) (leb-true (digits_value 10 text) range.1 inside.1))
      | inr other ↦ other
    ])

    pub known_number : IsNumeral 10 text → range.0 ≤ digits_value 10 text → digits_value 10 text ≤ range.1 → Some (digits_value 10 text) ≡ number_in (value_of name text)
    unfolding value_of is_known_number
    known_number numeral low high =
        rw (number_of_numeral text numeral, within, le-leb range.0 (digits_value 10 text) low, le-leb (digits_value 10 text) range.1 high) refl

-- a value that is no number is its text
text_value_by : (b : Bool) (n : ℕ) (text : List ℕ) → None ≡ number_in (cond b (Num n) (Text text)) → Text text ≡ cond b (Num n) (Text text)
text_value_by true n text e = absurd (let f : ⊥ = cc in f)
text_value_by false n text e = refl

pub text_value : (name text : List ℕ) → None ≡ number_in (value_of name text) → Text text ≡ value_of name text
unfolding value_of
text_value name text e = text_value_by (is_known_number name text) (digits_value 10 text) text e
