-- The canonical options of a map stand for the map, and are as short as any that do.
use Rattle.std.proofs.Common.{◌≡◌, ◌≢◌, inl, inr, ℕ, suc, ◌+◌, ◌^◌, ◌<◌, ◌≤◌, Bool, true, false, cond, T, List, [], ◌∷◌, ◌++◌, length, length-append, Option, Some, None, refl, sym, ap, subst, ◌∙◌, arith, ◌&&◌, decimal, map as each}
use Rattle.std.specs.List.{AllByRecursion}
use Rattle.std.specs.Char.{to_ascii_lowercase}
use Rattle.std.specs.Str.Parse.{AllDigits, digits_value}
use Rattle.std.specs.Ordering.{nat_cmp, is_lt}
use Rattle.std.specs.declared.cmp.Ordering.{Ordering}
use Rattle.std.specs.declared.cmp.Ordering.TheVariants.{Less, Equal, Greater}
use Rattle.std.specs.Cmp.{tied_itself}
use Rattle.std.specs.Cmp.Lexicographic.{slice_cmp, nat_list_cmp_total}
use Rattle.std.specs.FinMap as map
use Rattle.std.specs.FinMap.{put, is_sorted, get-entries, get-from_entries, entries-insert, entries_sorted, len-entries, len-empty, same_map, nat_cmp-IsAntisymmetric, slice_cmp-IsAntisymmetric}
use Rattle.std.specs.FinMap.Entries.{by_order, below_all}
use Rattle.std.proofs.lemmas.Bool.{false≢true, cases_lt, lt-ltb, le-ltb, leb-true, and_parts}
use Rattle.std.proofs.lemmas.Fmt.{decimal_is_IsNumeral, length-decimal-le}
use Rattle.std.proofs.lemmas.Int.Digits.{digits_value-lt}
use Rattle.std.proofs.lemmas.Str.Parse.{digit_from_value}
use Rattle.std.proofs.lemmas.List.{nil_from_length}
use Rattle.tftp_packet.specs.{OptionMap, OptionValue, Num, Text, lower, range_of, is_within, is_number, is_known_number, value_of, IsString, AreStrings, terminated, strings, Pair, pair_strings, AreNamed, AreApart, AreOptions, SameName, map_of, Shown, value_text, shown_pair, shown_pairs, canonical_pairs}
use Rattle.tftp_packet.proofs.Values.{range_below, is_below, number_of_numeral, numeral_of_number}
use Rattle.tftp_packet.proofs.Maps.{entry_of}
use Rattle.tftp_packet.proofs.OwnedMaps.{lower_twice}

abbrev pub Bytes : List ℕ → Type 0
Bytes bytes = AllByRecursion (λ b. b < 256) bytes

-- ---- what an entry of a map that options stand for is like
pub record Good (entry : Shown) : Type 0 where
  pub low : lower entry.0 ≡ entry.0
  pub named : entry.0 ≢ []
  pub name_string : IsString entry.0
  pub name_bytes : Bytes entry.0
  pub text_string : IsString (value_text entry.1)
  pub text_bytes : Bytes (value_text entry.1)
  pub again : value_of entry.0 (value_text entry.1) ≡ entry.1

-- an option as it is written
pub record GoodPair (pair : Pair) : Type 0 where
  pub named : pair.0 ≢ []
  pub name_string : IsString pair.0
  pub name_bytes : Bytes pair.0
  pub text_string : IsString pair.1
  pub text_bytes : Bytes pair.1

lower_byte_within : (c : ℕ) → c < 256 → to_ascii_lowercase c < 256
lower_byte_within c h = elim (cases_lt c 65) [
  | inl small ↦ rw (lt-ltb c 65 small) h
  | inr big ↦ elim (cases_lt c 91) [
    | inl upper ↦ rw (le-ltb c 65 big, lt-ltb c 91 upper) (omega arith)
    | inr other ↦ rw (le-ltb c 65 big, le-ltb c 91 other) h
  ]
]

lower_byte_some : (c : ℕ) → c ≢ 0 → to_ascii_lowercase c ≢ 0
lower_byte_some c h = elim (cases_lt c 65) [
  | inl small ↦ rw (lt-ltb c 65 small) h
  | inr big ↦ elim (cases_lt c 91) [
    | inl upper ↦ rw (le-ltb c 65 big, lt-ltb c 91 upper) (λ e. omega arith)
    | inr other ↦ rw (le-ltb c 65 big, le-ltb c 91 other) h
  ]
]

lower_bytes : (s : List ℕ) → Bytes s → Bytes (lower s)
lower_bytes [] h = tt
lower_bytes (c ∷ s) h = (lower_byte_within c h.0, lower_bytes s h.1)

lower_string : (s : List ℕ) → IsString s → IsString (lower s)
lower_string [] h = tt
lower_string (c ∷ s) h = (lower_byte_some c h.0, lower_string s h.1)

lower_named : (s : List ℕ) → s ≢ [] → lower s ≢ []
lower_named [] h e = h refl
lower_named (c ∷ s) h e = let f : ⊥ = cc in f

pub length_lower : (s : List ℕ) → length (lower s) ≡ length s
length_lower [] = refl
length_lower (c ∷ s) = ap suc (length_lower s)

digits_string : (ds : List ℕ) → AllDigits 10 ds → IsString ds
digits_string [] h = tt
digits_string (d ∷ ds) h = ((λ zero'. let r = digit_from_value d h.0 in omega (arith, r.0)), digits_string ds h.1)

digits_bytes : (ds : List ℕ) → AllDigits 10 ds → Bytes ds
digits_bytes [] h = tt
digits_bytes (d ∷ ds) h = ((let r = digit_from_value d h.0 in omega (arith, r.1)), digits_bytes ds h.1)

-- ---- a value, written and read again
within_below : (range : Option (ℕ × ℕ)) (n : ℕ) → is_below range → is_within range n ≡ true → n < 2 ^ 64
within_below None n below e = absurd (false≢true e)
within_below (Some range) n below e = let high = leb-true n range.1 (and_parts _ _ e).1 in omega arith

pub record GoodValue (key text : List ℕ) (value : OptionValue) : Type 0 where
  pub string : IsString (value_text value)
  pub bytes : Bytes (value_text value)
  pub again : value_of key (value_text value) ≡ value
  pub short : length (value_text value) ≤ length text

good_value_by : (key text : List ℕ) → IsString text → Bytes text → (b : Bool) → is_known_number key text ≡ b → GoodValue key text (cond b (Num (digits_value 10 text)) (Text text))
unfolding value_of is_known_number
good_value_by key text string bytes false e = record {
  string = string;
  bytes = bytes;
  again = ap (λ b. cond b (Num (digits_value 10 text)) (Text text)) e;
  short = omega arith;
}
good_value_by key text string bytes true e =
    let n = digits_value 10 text in
    let parts = and_parts (is_number text) (is_within (range_of key) n) e in
    let numeral = numeral_of_number text parts.0 in
    let small = within_below (range_of key) n (range_below key) parts.1 in
    let written = decimal_is_IsNumeral n small in
    record {
      string = digits_string (decimal n) written.0.1;
      bytes = digits_bytes (decimal n) written.0.1;
      again = rw (number_of_numeral (decimal n) written.0, written.1, parts.1) refl;
      short = length-decimal-le (length text) n numeral.0 (digits_value-lt 10 text numeral.1) small;
    }

good_value : (key text : List ℕ) → IsString text → Bytes text → GoodValue key text (value_of key text)
unfolding value_of
good_value key text string bytes = good_value_by key text string bytes (is_known_number key text) refl

good_entry : (pair : Pair) → GoodPair pair → Good (entry_of pair)
good_entry pair good =
    let value = good_value (lower pair.0) pair.1 good.text_string good.text_bytes in
    record {
      low = lower_twice pair.0;
      named = lower_named pair.0 good.named;
      name_string = lower_string pair.0 good.name_string;
      name_bytes = lower_bytes pair.0 good.name_bytes;
      text_string = value.string;
      text_bytes = value.bytes;
      again = value.again;
    }

-- ---- the entries of the map
all_put : (P : Shown → Type 0) (k : List ℕ) (v : OptionValue) (es : List Shown) → P (k, v) → AllByRecursion P es → AllByRecursion P (put (slice_cmp nat_cmp) k v es)
all_put P k v [] h all = (h, tt)
all_put P k v (e ∷ es) h all = by (all_put P k v es h all.1) (slice_cmp nat_cmp k e.0) refl
  where
    by : AllByRecursion P (put (slice_cmp nat_cmp) k v es) → (r : Ordering) → slice_cmp nat_cmp k e.0 ≡ r → AllByRecursion P (by_order r ((k, v) ∷ e ∷ es) ((e.0, v) ∷ es) (e ∷ put (slice_cmp nat_cmp) k v es))
    by later Less is = (h, all)
    by later Equal is = (subst (λ n. P (n, v)) (slice_cmp-IsAntisymmetric nat_cmp-IsAntisymmetric k e.0 is) h, all.1)
    by later Greater is = (all.0, later)

pub no_entry : map.entries {K = List ℕ} {X = OptionValue} {R = slice_cmp nat_cmp} map.empty ≡ []
no_entry = nil_from_length _ (sym (len-entries map.empty) ∙ len-empty (slice_cmp nat_cmp) OptionValue)

entries_of : (pair : Pair) (pairs : List Pair) → map.entries (map_of (pair ∷ pairs)) ≡ put (slice_cmp nat_cmp) (lower pair.0) (value_of (lower pair.0) pair.1) (map.entries (map_of pairs))
entries_of pair pairs = entries-insert nat_list_cmp_total (map_of pairs) (lower pair.0) (value_of (lower pair.0) pair.1)

pub good_entries : (pairs : List Pair) → AllByRecursion GoodPair pairs → AllByRecursion Good (map.entries (map_of pairs))
good_entries [] all = subst (AllByRecursion Good) (sym no_entry) tt
good_entries (pair ∷ pairs) all = subst (AllByRecursion Good) (sym (entries_of pair pairs))
    (all_put Good (lower pair.0) (value_of (lower pair.0) pair.1) (map.entries (map_of pairs)) (good_entry pair all.0) (good_entries pairs all.1))

-- ---- bytes, one string after another
all_both : {X : Type 0} (P : X → Type 0) (xs ys : List X) → AllByRecursion P xs → AllByRecursion P ys → AllByRecursion P (xs ++ ys)
all_both P [] ys h k = k
all_both P (x ∷ xs) ys h k = (h.0, all_both P xs ys h.1 k)

all_front : {X : Type 0} (P : X → Type 0) (xs ys : List X) → AllByRecursion P (xs ++ ys) → AllByRecursion P xs
all_front P [] ys h = tt
all_front P (x ∷ xs) ys h = (h.0, all_front P xs ys h.1)

all_back : {X : Type 0} (P : X → Type 0) (xs ys : List X) → AllByRecursion P (xs ++ ys) → AllByRecursion P ys
all_back P [] ys h = h
all_back P (x ∷ xs) ys h = all_back P xs ys h.1

pub bytes_of_strings : (all : List (List ℕ)) → Bytes (strings all) → AllByRecursion Bytes all
bytes_of_strings [] h = tt
bytes_of_strings (s ∷ all) h =
    (all_front (λ b. b < 256) s (0 ∷ []) (all_front (λ b. b < 256) (terminated s) (strings all) h), bytes_of_strings all (all_back (λ b. b < 256) (terminated s) (strings all) h))

pub strings_bytes : (all : List (List ℕ)) → AllByRecursion Bytes all → Bytes (strings all)
strings_bytes [] h = tt
strings_bytes (s ∷ all) h = all_both (λ b. b < 256) (terminated s) (strings all) (all_both (λ b. b < 256) s (0 ∷ []) h.0 (omega arith, tt)) (strings_bytes all h.1)

good_pairs : (pairs : List Pair) → AreStrings (pair_strings pairs) → AreNamed pairs → AllByRecursion Bytes (pair_strings pairs) → AllByRecursion GoodPair pairs
good_pairs [] strung named bytes = tt
good_pairs (pair ∷ pairs) strung named bytes = (
  record { named = named.0; name_string = strung.0; name_bytes = bytes.0; text_string = strung.1.0; text_bytes = bytes.1.0 },
  good_pairs pairs strung.1.1 named.1 bytes.1.1,
)

-- ---- what is written of entries
t_parts : (a b : Bool) → T (a && b) → (a ≡ true) × T b
t_parts true b h = (refl, h)
t_parts false b h = absurd h

t_both : (a b : Bool) → T (a && b) → T a × T b
t_both true b h = (tt, h)
t_both false b h = absurd h

shown_strung : (es : List Shown) → AllByRecursion Good es → AreStrings (pair_strings (shown_pairs es))
shown_strung [] all = tt
shown_strung (e ∷ es) all = (all.0.name_string, (all.0.text_string, shown_strung es all.1))

shown_bytes : (es : List Shown) → AllByRecursion Good es → AllByRecursion Bytes (pair_strings (shown_pairs es))
shown_bytes [] all = tt
shown_bytes (e ∷ es) all = (all.0.name_bytes, (all.0.text_bytes, shown_bytes es all.1))

shown_named : (es : List Shown) → AllByRecursion Good es → AreNamed (shown_pairs es)
shown_named [] all = tt
shown_named (e ∷ es) all = (all.0.named, shown_named es all.1)

less_apart : (x y : List ℕ) → is_lt (slice_cmp nat_cmp x y) ≡ true → x ≡ y → ⊥
less_apart x y less same = false≢true (sym (ap is_lt (tied_itself nat_list_cmp_total x)) ∙ ap (λ z. is_lt (slice_cmp nat_cmp x z)) same ∙ less)

shown_later : (e : Shown) (es : List Shown) → Good e → AllByRecursion Good es → T (below_all (slice_cmp nat_cmp) e.0 es) → AllByRecursion (λ later. SameName (shown_pair e) later → ⊥) (shown_pairs es)
shown_later e [] good all below = tt
shown_later e (f ∷ es) good all below =
    let parts = t_parts (is_lt (slice_cmp nat_cmp e.0 f.0)) (below_all (slice_cmp nat_cmp) e.0 es) below in
    ((λ same. less_apart e.0 f.0 parts.0 (sym good.low ∙ same ∙ all.0.low)), shown_later e es good all.1 parts.1)

shown_apart : (es : List Shown) → AllByRecursion Good es → T (is_sorted (slice_cmp nat_cmp) es) → AreApart (shown_pairs es)
shown_apart [] all sorted = tt
shown_apart (e ∷ es) all sorted =
    let parts = t_both (below_all (slice_cmp nat_cmp) e.0 es) (is_sorted (slice_cmp nat_cmp) es) sorted in
    (shown_later e es all.0 all.1 parts.0, shown_apart es all.1 parts.1)

shown_entry_of : (es : List Shown) → AllByRecursion Good es → each entry_of (shown_pairs es) ≡ es
shown_entry_of [] all = refl
shown_entry_of (e ∷ es) all =
    let name = all.0.low in
    let value : value_of (lower e.0) (value_text e.1) ≡ e.1 = ap (λ n. value_of n (value_text e.1)) name ∙ all.0.again in
    let rest = shown_entry_of es all.1 in
    λ i. (name i, value i) ∷ rest i

map_of_entries : (m : OptionMap) → map.from_entries (map.entries m) ≡ m
map_of_entries m = same_map nat_list_cmp_total (slice_cmp-IsAntisymmetric nat_cmp-IsAntisymmetric) (map.from_entries (map.entries m)) m
    (λ q. get-from_entries nat_list_cmp_total (map.entries m) q ∙ sym (get-entries m q))

-- ---- how long it is
abbrev pub size : List Pair → ℕ
size pairs = length (strings (pair_strings pairs))

size_more : (pair : Pair) (pairs : List Pair) → size (pair ∷ pairs) ≡ length pair.0 + length pair.1 + 2 + size pairs
size_more pair pairs =
    let a = length-append (terminated pair.0) (strings (pair.1 ∷ pair_strings pairs)) in
    let b = length-append pair.0 (0 ∷ []) in
    let c = length-append (terminated pair.1) (strings (pair_strings pairs)) in
    let d = length-append pair.1 (0 ∷ []) in
    omega arith

size_put : (k : List ℕ) (v : OptionValue) (es : List Shown) → size (shown_pairs (put (slice_cmp nat_cmp) k v es)) ≤ length k + length (value_text v) + 2 + size (shown_pairs es)
size_put k v [] = omega (arith, size_more (k, value_text v) [])
size_put k v (e ∷ es) = by (size_put k v es) (slice_cmp nat_cmp k e.0) refl
  where
    by : size (shown_pairs (put (slice_cmp nat_cmp) k v es)) ≤ length k + length (value_text v) + 2 + size (shown_pairs es) → (r : Ordering) → slice_cmp nat_cmp k e.0 ≡ r
        → size (shown_pairs (by_order r ((k, v) ∷ e ∷ es) ((e.0, v) ∷ es) (e ∷ put (slice_cmp nat_cmp) k v es))) ≤ length k + length (value_text v) + 2 + size (shown_pairs (e ∷ es))
    by later Less is = omega (arith, size_more (k, value_text v) (shown_pairs (e ∷ es)))
    by later Equal is =
        let same = ap length (slice_cmp-IsAntisymmetric nat_cmp-IsAntisymmetric k e.0 is) in
        omega (arith, size_more (e.0, value_text v) (shown_pairs es), size_more (shown_pair e) (shown_pairs es))
    by later Greater is = omega (arith, later, size_more (shown_pair e) (shown_pairs (put (slice_cmp nat_cmp) k v es)), size_more (shown_pair e) (shown_pairs es))

size_entries : (pairs : List Pair) → AllByRecursion GoodPair pairs → size (shown_pairs (map.entries (map_of pairs))) ≤ size pairs
size_entries [] all = subst (λ es. size (shown_pairs es) ≤ 0) (sym no_entry) (omega arith)
size_entries (pair ∷ pairs) all = subst (λ es. size (shown_pairs es) ≤ size (pair ∷ pairs)) (sym (entries_of pair pairs))
    (let value = good_value (lower pair.0) pair.1 all.0.text_string all.0.text_bytes in
    let put_size = size_put (lower pair.0) (value_of (lower pair.0) pair.1) (map.entries (map_of pairs)) in
    let rest = size_entries pairs all.1 in
    let name = length_lower pair.0 in
    let whole = size_more pair pairs in
    let short = value.short in
    omega arith)

-- ---- all of it, of a map that options stand for
pub record Canonical (pairs : List Pair) (m : OptionMap) : Type 0 where
  pub options : AreOptions (canonical_pairs m)
  pub bytes : AllByRecursion Bytes (pair_strings (canonical_pairs m))
  pub stands : m ≡ map_of (canonical_pairs m)
  pub short : size (canonical_pairs m) ≤ size pairs

pub canonical_good : (pairs : List Pair) (m : OptionMap) → m ≡ map_of pairs → AreOptions pairs → AllByRecursion Bytes (pair_strings pairs) → Canonical pairs m
canonical_good pairs m is written bytes =
    let good_list = good_pairs pairs written.0 written.1 bytes in
    let good = subst (λ n. AllByRecursion Good (map.entries n)) (sym is) (good_entries pairs good_list) in
    record {
      options = (shown_strung (map.entries m) good, shown_named (map.entries m) good, shown_apart (map.entries m) good (entries_sorted m));
      bytes = shown_bytes (map.entries m) good;
      stands = sym (ap map.from_entries (shown_entry_of (map.entries m) good) ∙ map_of_entries m);
      short = subst (λ n. size (canonical_pairs n) ≤ size pairs) (sym is) (size_entries pairs good_list);
    }
