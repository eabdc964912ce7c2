-- An OACK with one option.
use Rattle.std.proofs.Common.{◌≡◌, ◌≢◌, ◌⊎◌, ℕ, ◌+◌, ◌/◌, ◌^◌, ◌<◌, ◌≤◌, Bool, true, false, cond, List, [], ◌∷◌, Option, Some, None, option_map, decimal, codes, bytes_eq, inl, inr, refl, sym, subst, ap, ◌∙◌, arith, rules, ◌&&◌}
use Rattle.std.specs.List.{AllByRecursion}
use Rattle.std.specs.FinMap as map
use Rattle.std.specs.Str.Parse.{AllDigits, digits_value}
use Rattle.std.proofs.lemmas.Bool.{true≢false, cases_Bool}
use Rattle.std.proofs.lemmas.Fmt.{decimal_is_IsNumeral}
use Rattle.std.proofs.lemmas.Slice.Eq.{bytes_eq-Decides}
use Rattle.std.proofs.lemmas.Str.Parse.{digit_from_value}
use Rattle.tftp_packet.specs.{OptionMap, OptionValue, Num, Text, lower, range_of, is_within, is_number, is_known_number, value_of, IsString, strings, Pair, pair_strings, map_of, text_of, RequestParts, Side, Octet, Message, Spells}
use Rattle.tftp_packet.specs.Rounds.{greatest_of}
use Rattle.tftp_packet.specs.{Rollover}
use Rattle.tftp_packet.proofs.CanonicalOptions.{Bytes, strings_bytes}
use Rattle.tftp_packet.proofs.Maps.{text_in_map}
use Rattle.tftp_packet.proofs.Values.{number_of_numeral, bytes_eq_no}
use Rattle.tftp_nego.specs.{MayAgree, MayAnswer, option_or}

digits_string : (ds : List ℕ) → AllDigits 10 ds → IsString ds
digits_string [] h = tt
digits_string (d ∷ ds) h = ((λ none. let r = digit_from_value d h.0 in omega (arith, r.0, none)), digits_string ds h.1)

digits_bytes : (ds : List ℕ) → AllDigits 10 ds → Bytes ds
digits_bytes [] h = tt
digits_bytes (d ∷ ds) h = ((let r = digit_from_value d h.0 in omega (arith, r.1)), digits_bytes ds h.1)

-- a name in lower case that can be written
pub record IsName (name : List ℕ) : Type 0 where
  pub low : lower name ≡ name
  pub some : name ≢ []
  pub string : IsString name
  pub bytes : Bytes name

pub size_name : IsName (codes "blksize")
size_name = record { low = refl; some = λ is. absurd (cc); string = search rules; bytes = search rules }

pub window_name : IsName (codes "windowsize")
window_name = record { low = refl; some = λ is. absurd (cc); string = search rules; bytes = search rules }

pub timeout_name : IsName (codes "timeout")
timeout_name = record { low = refl; some = λ is. absurd (cc); string = search rules; bytes = search rules }

pub total_name : IsName (codes "tsize")
total_name = record { low = refl; some = λ is. absurd (cc); string = search rules; bytes = search rules }

abbrev pub one_pair : List ℕ → ℕ → List Pair
one_pair name n = (name, decimal n) ∷ []

abbrev pub one_option : List ℕ → ℕ → OptionMap
one_option name n = map_of (one_pair name n)

module _ (name : List ℕ) (is : IsName name) (n : ℕ) (small : n < 2 ^ 64) (range : is_within (range_of name) n ≡ true) where
  value_is : value_of name (decimal n) ≡ Num n
  unfolding value_of is_known_number
  value_is = let written = decimal_is_IsNumeral n small in rw (number_of_numeral (decimal n) written.0, written.1, range) refl

  found : (key : List ℕ) → map.get (one_option name n) key ≡ option_map (value_of key) (cond (bytes_eq name key) (Some (decimal n)) None)
  found key = text_in_map (one_pair name n) key ∙ ap (λ low. option_map (value_of key) (cond (bytes_eq low key) (Some (decimal n)) None)) is.low

  pub one_there : map.get (one_option name n) name ≡ Some (Num n)
  one_there = found name ∙ ap (λ b. option_map (value_of name) (cond b (Some (decimal n)) None)) ((bytes_eq-Decides name name).1 refl) ∙ ap Some value_is

  pub other_none : (key : List ℕ) → (name ≡ key → ⊥) → map.get (one_option name n) key ≡ None
  other_none key other = found key ∙ ap (λ b. option_map (value_of key) (cond b (Some (decimal n)) None)) (bytes_eq_no name key other)

  pub only_one : (key : List ℕ) (value : OptionValue) → map.get (one_option name n) key ≡ Some value → (name ≡ key) × (value ≡ Num n)
  only_one key value has = elim (cases_Bool (bytes_eq name key)) [
    | inr off ↦ let both : None ≡ Some value = sym (found key ∙ ap (λ b. option_map (value_of key) (cond b (Some (decimal n)) None)) off) ∙ has in absurd (cc)
    | inl on ↦
        let same = (bytes_eq-Decides name key).0 on in
        let both : Some (Num n) ≡ Some value = sym one_there ∙ ap (map.get (one_option name n)) same ∙ has in
        (same, cc)
  ]

  pub one_spelled : (payload : List ℕ) × Spells payload (Message.Oack (one_option name n))
  one_spelled =
      let written = decimal_is_IsNumeral n small in (
        0 ∷ 6 ∷ strings (pair_strings (one_pair name n)),
        (
          (omega arith, (omega arith, strings_bytes (pair_strings (one_pair name n)) (is.bytes, (digits_bytes (decimal n) written.0.1, tt)))),
          record {
            pairs = one_pair name n;
            bytes = refl;
            strung = (is.string, (digits_string (decimal n) written.0.1, tt));
            named = (is.some, tt);
            apart = (tt, tt);
            map = refl;
          },
        ),
      )

  pub one_may : (rollover : Option Rollover) (asked : RequestParts) (number : ℕ) → map.get asked.options name ≡ Some (Num number) → MayAnswer asked.side name number n
      → ((size : ℕ) → map.get (one_option name n) (codes "tsize") ≡ Some (Num size) → size / option_or 512 (one_option name n) (codes "blksize") + 1 ≤ greatest_of rollover) → MayAgree rollover asked (one_option name n)
  one_may rollover asked number has may sized = record {
    asked = λ key value at.
        let one = only_one key value at in
        (number, n, ap (map.get asked.options) (sym one.0) ∙ has, one.1, subst (λ k. MayAnswer asked.side k number n) one.0 may);
    size = λ octet size at. sized size at;
  }

  pub some_option : one_option name n ≡ map.empty → ⊥
  some_option none = let both : None ≡ Some (Num n) = sym (map.get-empty _ name) ∙ ap (λ m. map.get m name) (sym none) ∙ one_there in absurd (cc)
