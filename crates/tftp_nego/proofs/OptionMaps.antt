-- What is said of the options one by one, and of their map.
use Rattle.std.proofs.Common.{◌≡◌, ◌≢◌, inl, inr, ℕ, Bool, true, false, cond, List, [], ◌∷◌, Option, Some, None, refl, sym, ap, subst, ◌∙◌, bytes_eq, option_map, is_some}
use Rattle.std.specs.Ordering.{nat_cmp}
use Rattle.std.specs.Cmp.Lexicographic.{slice_cmp}
use Rattle.std.specs.FinMap as map
use Rattle.std.specs.FinMap.{get-empty}
use Rattle.std.proofs.lemmas.Slice.Eq.{bytes_eq-Decides}
use Rattle.std.proofs.lemmas.Bool.{cases_Bool}
use Rattle.tftp_packet.specs.{OptionMap, OptionValue, lower, value_of, no_options, Pair, map_of, text_of, AreApart, HasEach}
use Rattle.tftp_packet.proofs.Maps.{text_in_map}
use Rattle.tftp_packet.proofs.SameMaps.{map_has_each}
use Rattle.tftp_nego.specs.{HasOption, EachName, SomeName}

-- ---- the texts and the map
no_text : {X : Type 0} (f : X → List ℕ) (o : Option X) (found : Option (List ℕ)) → is_some o ≡ false → option_map f o ≡ found → found ≡ None
no_text f None found none e = sym e
no_text f (Some x) found none e = absurd (let y : ⊥ = cc in y)

some_text : {X : Type 0} (f : X → List ℕ) (o : Option X) (found : Option (List ℕ)) → is_some o ≡ true → option_map f o ≡ found → (text : List ℕ) × (found ≡ Some text)
some_text f None found some e = absurd (let y : ⊥ = cc in y)
some_text f (Some x) found some e = (f x, sym e)

-- an option that is not found, and one that is
pub not_named : {X : Type 0} (f : X → List ℕ) (o : Option X) (pairs : List Pair) (key : List ℕ) → is_some o ≡ false → option_map f o ≡ text_of pairs key → map.get (map_of pairs) key ≡ None
not_named f o pairs key none e = text_in_map pairs key ∙ ap (option_map (value_of key)) (no_text f o (text_of pairs key) none e)

pub named : {X : Type 0} (f : X → List ℕ) (o : Option X) (pairs : List Pair) (key : List ℕ) → is_some o ≡ true → option_map f o ≡ text_of pairs key → HasOption (map_of pairs) key
named f o pairs key some e =
    let (text, found) = some_text f o (text_of pairs key) some e in
    (value_of key text, text_in_map pairs key ∙ ap (option_map (value_of key)) found)

pub is_named : {X : Type 0} (f : X → List ℕ) (o : Option X) (pairs : List Pair) (key : List ℕ) → HasOption (map_of pairs) key → option_map f o ≡ text_of pairs key → is_some o ≡ true
is_named f o pairs key (value, has) e = elim (cases_Bool (is_some o)) [
  | inl some ↦ some
  | inr none ↦ let same : None ≡ Some value = sym (not_named f o pairs key none e) ∙ has in absurd (let y : ⊥ = cc in y)
]

-- a value of the map is that of a text
value_text : (key : List ℕ) (o : Option (List ℕ)) (value : OptionValue) → option_map (value_of key) o ≡ Some value → (text : List ℕ) × (o ≡ Some text) × (value_of key text ≡ value)
value_text key None value e = absurd (let y : ⊥ = cc in y)
value_text key (Some text) value e = (text, refl, cc)

pub text_of_value : (pairs : List Pair) (key : List ℕ) (value : OptionValue) → map.get (map_of pairs) key ≡ Some value → (text : List ℕ) × (text_of pairs key ≡ Some text) × (value_of key text ≡ value)
text_of_value pairs key value e = value_text key (text_of pairs key) value (sym (text_in_map pairs key) ∙ e)

-- ---- each name, and some name
name_at : (P : List ℕ → Type 0) (b : Bool) (name key : List ℕ) (o : Option (List ℕ)) (text found : List ℕ) → bytes_eq name key ≡ b → P name → (o ≡ Some found → P key) → cond b (Some text) o ≡ Some found → P key
name_at P true name key o text found same here later e = subst P ((bytes_eq-Decides name key).0 same) here
name_at P false name key o text found same here later e = later e

each_text : (P : List ℕ → Type 0) (pairs : List Pair) (key text : List ℕ) → EachName P pairs → text_of pairs key ≡ Some text → P key
each_text P [] key text each e = absurd (let y : ⊥ = cc in y)
each_text P (pair ∷ pairs) key text each e =
    name_at P (bytes_eq (lower pair.0) key) (lower pair.0) key (text_of pairs key) pair.1 text refl each.0 (each_text P pairs key text each.1) e

pub each_in_map : (P : List ℕ → Type 0) (pairs : List Pair) → EachName P pairs → (name : List ℕ) → HasOption (map_of pairs) name → P name
each_in_map P pairs each name (value, e) =
    let (text, found, is) = text_of_value pairs name value e in each_text P pairs name text each found

some_of : (P : List ℕ → Type 0) (m : OptionMap) (pairs : List Pair) → HasEach m pairs → SomeName P pairs → (name : List ℕ) × HasOption m name × P name
some_of P m [] has some = absurd some
some_of P m (pair ∷ pairs) has (inl here) = (lower pair.0, (value_of (lower pair.0) pair.1, has.0), here)
some_of P m (pair ∷ pairs) has (inr later) = some_of P m pairs has.1 later

pub some_in_map : (P : List ℕ → Type 0) (pairs : List Pair) → AreApart pairs → SomeName P pairs → (name : List ℕ) × HasOption (map_of pairs) name × P name
some_in_map P pairs apart some = some_of P (map_of pairs) pairs (map_has_each pairs apart) some

-- ---- no option

pub has_not_empty : (m : OptionMap) (name : List ℕ) → HasOption m name → m ≢ no_options
has_not_empty m name (value, e) empty =
    let none : map.get no_options name ≡ None = get-empty (slice_cmp nat_cmp) name in
    let same : None ≡ Some value = sym none ∙ ap (λ o. map.get o name) (sym empty) ∙ e in
    let y : ⊥ = cc in y

pub some_not_empty : (pairs : List Pair) → AreApart pairs → pairs ≢ [] → map_of pairs ≢ no_options
some_not_empty [] apart some = absurd (some refl)
some_not_empty (pair ∷ pairs) apart some = has_not_empty (map_of (pair ∷ pairs)) (lower pair.0) (value_of (lower pair.0) pair.1, (map_has_each (pair ∷ pairs) apart).0)
