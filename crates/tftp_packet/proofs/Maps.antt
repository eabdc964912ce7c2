-- The map of options, by their names.
use Rattle.std.proofs.Common.{◌≡◌, ℕ, ◌+◌, ◌/◌, Bool, true, false, cond, List, [], ◌∷◌, length, Option, Some, None, refl, sym, ap, ◌∙◌, arith, bytes_eq, option_map, map as each, option_and_then, count_by, ◌==◌, is_some}
use Rattle.std.specs.List.{AllByRecursion}
use Rattle.std.specs.Ordering.{nat_cmp, eq_by_cmp}
use Rattle.std.specs.Cmp.{eq_by_cmp_equiv}
use Rattle.std.specs.Cmp.Lexicographic.{slice_cmp, nat_list_cmp_total, texts_ties}
use Rattle.std.specs.FinMap as map
use Rattle.std.specs.FinMap.{find, get-from_entries, len-insert, len-empty}
use Rattle.std.proofs.lemmas.Slice.Eq.{bytes_eq-Decides}
use Rattle.tftp_packet.specs.{OptionValue, lower, value_of, number_in, Pair, pair_strings, map_of, text_of, AreApart, SameName, HoldsOptions}
use Rattle.tftp_packet.proofs.Values.{bytes_eq_no}
use Rattle.tftp_packet.proofs.Strings.{zeros_of_strings}
use Rattle.tftp_packet.proofs.PairStrings.{length_pair_strings}

-- ---- names
pub bytes_eq_yes : (x y : List ℕ) → x ≡ y → bytes_eq x y ≡ true
bytes_eq_yes x y e = (bytes_eq-Decides x y).1 e

-- names tie where they are equal
pub ties : (x y : List ℕ) → eq_by_cmp (slice_cmp nat_cmp) x y ≡ bytes_eq y x
ties x y = (eq_by_cmp_equiv nat_list_cmp_total).symm x y ∙ sym (texts_ties y x)

-- ---- the value of a name as it is written
pub text_found : (pairs rest : List Pair) (name text key : List ℕ) → pairs ≡ (name, text) ∷ rest → lower name ≡ key → Some text ≡ text_of pairs key
text_found pairs rest name text key e same =
    sym (ap (λ p. text_of p key) e ∙ ap (λ b. cond b (Some text) (text_of rest key)) (bytes_eq_yes (lower name) key same))

pub text_later : (pairs rest : List Pair) (name text key : List ℕ) → pairs ≡ (name, text) ∷ rest → (lower name ≡ key → ⊥) → text_of pairs key ≡ text_of rest key
text_later pairs rest name text key e other =
    ap (λ p. text_of p key) e ∙ ap (λ b. cond b (Some text) (text_of rest key)) (bytes_eq_no (lower name) key other)

pub text_of_apart : (name key : List ℕ) (text : List ℕ) (pairs : List Pair) → lower name ≡ key → AllByRecursion (λ later. SameName (name, text) later → ⊥) pairs → text_of pairs key ≡ None
text_of_apart name key text [] e apart = refl
text_of_apart name key text (pair ∷ pairs) e apart =
    ap (λ b. cond b (Some pair.1) (text_of pairs key)) (bytes_eq_no (lower pair.0) key (λ same. apart.0 (e ∙ sym same))) ∙ text_of_apart name key text pairs e apart.1

-- ---- the map of options
abbrev pub entry_of : Pair → List ℕ × OptionValue
entry_of pair = (lower pair.0, value_of (lower pair.0) pair.1)

same_entry : (b : Bool) (name key text : List ℕ) (o : Option (List ℕ)) → bytes_eq name key ≡ b
    → cond b (Some (value_of name text)) (option_map (value_of key) o) ≡ option_map (value_of key) (cond b (Some text) o)
same_entry true name key text o e = ap (λ n. Some (value_of n text)) ((bytes_eq-Decides name key).0 e)
same_entry false name key text o e = refl

pub find_text : (pairs : List Pair) (key : List ℕ) → find (slice_cmp nat_cmp) key (each (λ pair. (lower pair.0, value_of (lower pair.0) pair.1)) pairs) ≡ option_map (value_of key) (text_of pairs key)
find_text [] key = refl
find_text (pair ∷ pairs) key =
    ap (λ b. cond b (Some (value_of (lower pair.0) pair.1)) (find (slice_cmp nat_cmp) key (each (λ p. (lower p.0, value_of (lower p.0) p.1)) pairs))) (ties key (lower pair.0))
    ∙ ap (cond (bytes_eq (lower pair.0) key) (Some (value_of (lower pair.0) pair.1))) (find_text pairs key)
    ∙ same_entry (bytes_eq (lower pair.0) key) (lower pair.0) key pair.1 (text_of pairs key) refl

pub text_in_map : (pairs : List Pair) (key : List ℕ) → map.get (map_of pairs) key ≡ option_map (value_of key) (text_of pairs key)
text_in_map pairs key = get-from_entries nat_list_cmp_total _ key ∙ find_text pairs key

pub no_text_in_map : (pairs : List Pair) (key : List ℕ) → None ≡ text_of pairs key → None ≡ option_and_then number_in (map.get (map_of pairs) key)
no_text_in_map pairs key e = sym (ap (option_and_then number_in) (text_in_map pairs key ∙ ap (option_map (value_of key)) (sym e)))

pub number_in_map : (pairs : List Pair) (key text : List ℕ) (o : Option ℕ) → Some text ≡ text_of pairs key → o ≡ number_in (value_of key text) → o ≡ option_and_then number_in (map.get (map_of pairs) key)
number_in_map pairs key text o e is = is ∙ sym (ap (option_and_then number_in) (text_in_map pairs key ∙ ap (option_map (value_of key)) (sym e)))

pub new_key : (pair : Pair) (pairs : List Pair) → AreApart (pair ∷ pairs) → map.get (map_of pairs) (lower pair.0) ≡ None
new_key pair pairs apart = text_in_map pairs (lower pair.0) ∙ ap (option_map (value_of (lower pair.0))) (text_of_apart pair.0 (lower pair.0) pair.1 pairs refl apart.0)

-- options that are apart are as many in their map
pub len_map : (pairs : List Pair) → AreApart pairs → map.len (map_of pairs) ≡ length pairs
len_map [] apart = len-empty (slice_cmp nat_cmp) OptionValue
len_map (pair ∷ pairs) apart =
    len-insert nat_list_cmp_total (map_of pairs) (lower pair.0) (value_of (lower pair.0) pair.1)
    ∙ ap (λ o. cond (is_some o) (map.len (map_of pairs)) (map.len (map_of pairs) + 1)) (new_key pair pairs apart)
    ∙ ap (λ n. n + 1) (len_map pairs apart.1) ∙ omega arith

-- half the strings
pub half : (bytes : List ℕ) (pairs : List Pair) → HoldsOptions bytes pairs → count_by (λ b. b == 0) bytes / 2 ≡ length pairs
half bytes pairs holds =
    let all = ap (count_by (λ b. b == 0)) holds.0 ∙ zeros_of_strings (pair_strings pairs) holds.1.0 ∙ length_pair_strings pairs in
    ap (λ n. n / 2) all ∙ omega arith
