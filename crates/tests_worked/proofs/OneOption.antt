-- Maps of one option.
use Rattle.std.proofs.Common.{Ordering, Equal, ◌≡◌, ◌≢◌, ℕ, Bool, true, false, cond, List, [], ◌∷◌, Some, None, refl, sym, ap, ◌∙◌}
use Rattle.std.specs.FinMap as map
use Rattle.std.specs.Ordering.{nat_cmp, is_eq, eq_by_cmp}
use Rattle.std.specs.Cmp.Lexicographic.{slice_cmp, nat_list_cmp_total}
use Rattle.tftp_packet.specs.{OptionMap, OptionValue, no_options}
use Rattle.tftp_nego.specs.{HasOption}

abbrev pub single : List ℕ → OptionValue → OptionMap
single name value = map.from_entries ((name, value) ∷ [])

is_equal : (r : Ordering) → is_eq r ≡ true → r ≡ Equal
is_equal Equal e = refl
is_equal _ e = absurd (cc)

pub name_is : (name other : List ℕ) → eq_by_cmp (slice_cmp nat_cmp) name other ≡ true → name ≡ other
name_is name other e = map.slice_cmp-IsAntisymmetric map.nat_cmp-IsAntisymmetric name other (is_equal (slice_cmp nat_cmp name other) e)

-- what it answers
pub found_single : (name : List ℕ) (value : OptionValue) (other : List ℕ) → map.get (single name value) other ≡ cond (eq_by_cmp (slice_cmp nat_cmp) other name) (Some value) None
found_single name value other = map.get-from_entries nat_list_cmp_total ((name, value) ∷ []) other

pub only_single : (name : List ℕ) (value : OptionValue) (other : List ℕ) (given : OptionValue) → map.get (single name value) other ≡ Some given → (other ≡ name) × (given ≡ value)
only_single name value other given e = by (eq_by_cmp (slice_cmp nat_cmp) other name) refl (sym (found_single name value other) ∙ e)
  where
    by : (same : Bool) → eq_by_cmp (slice_cmp nat_cmp) other name ≡ same → cond same (Some value) None ≡ Some given → (other ≡ name) × (given ≡ value)
    by true test found = (name_is other name test, cc)
    by false test found = absurd (cc)

pub not_there : (options : OptionMap) (name : List ℕ) → map.get options name ≡ None → HasOption options name → ⊥
not_there options name none (value, has) = let both : None ≡ Some value = sym none ∙ has in absurd (cc)

-- a map with an option is not empty
pub has_some : (options : OptionMap) (name : List ℕ) (value : OptionValue) → map.get options name ≡ Some value → options ≢ no_options
has_some options name value has e =
    let none = map.get-empty {X = OptionValue} (slice_cmp nat_cmp) name in
    let both : Some value ≡ None = sym has ∙ ap (λ o. map.get o name) e ∙ none in
    absurd (cc)
