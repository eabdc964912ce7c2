-- A map that has each of as many options as it has entries is their map.
use Rattle.std.proofs.Common.{◌≡◌, ℕ, ◌-◌, Bool, true, false, cond, List, [], ◌∷◌, length, Some, None, refl, sym, ap, ◌∙◌, arith, bytes_eq, is_some}
use Rattle.std.specs.List.{AllByRecursion}
use Rattle.std.specs.Cmp.Lexicographic.{nat_list_cmp_total}
use Rattle.std.specs.FinMap as map
use Rattle.std.specs.FinMap.{get-insert, get-remove, len-remove, empty_of_len, same_map, nat_cmp-IsAntisymmetric, slice_cmp-IsAntisymmetric}
use Rattle.std.proofs.lemmas.Slice.Eq.{bytes_eq-Decides}
use Rattle.tftp_packet.specs.{OptionMap, OptionValue, lower, value_of, Pair, map_of, AreApart, SameName, HasEach}
use Rattle.tftp_packet.proofs.Values.{bytes_eq_no}
use Rattle.tftp_packet.proofs.Maps.{bytes_eq_yes, ties, len_map}

-- without one name the others stay
others_stay : (m : OptionMap) (pair : Pair) (pairs : List Pair) → AllByRecursion (λ later. SameName pair later → ⊥) pairs → HasEach m pairs → HasEach (map.remove m (lower pair.0)) pairs
others_stay m pair [] apart has = tt
others_stay m pair (q ∷ pairs) apart has = (
  get-remove nat_list_cmp_total m (lower pair.0) (lower q.0)
      ∙ ap (λ b. cond b None (map.get m (lower q.0))) (ties (lower q.0) (lower pair.0) ∙ bytes_eq_no (lower pair.0) (lower q.0) apart.0)
      ∙ has.0,
  others_stay m pair pairs apart.1 has.1,
)

found_or_not : (b : Bool) (m : OptionMap) (k q : List ℕ) (v : OptionValue) → bytes_eq k q ≡ b → map.get m k ≡ Some v → map.get m q ≡ cond b (Some v) (cond b None (map.get m q))
found_or_not true m k q v e found = ap (map.get m) (sym ((bytes_eq-Decides k q).0 e)) ∙ found
found_or_not false m k q v e found = refl

same_gets : (pairs : List Pair) (m : OptionMap) → AreApart pairs → HasEach m pairs → map.len m ≡ length pairs → (q : List ℕ) → map.get m q ≡ map.get (map_of pairs) q
same_gets [] m apart has long q = ap (λ n. map.get n q) (empty_of_len m long)
same_gets (pair ∷ pairs) m apart has long q =
    let k = lower pair.0 in
    let v = value_of k pair.1 in
    let held : is_some (map.get m k) ≡ true = ap is_some has.0 in
    let fewer : map.len (map.remove m k) ≡ length pairs =
    len-remove nat_list_cmp_total m k ∙ ap (λ b. cond b (map.len m - 1) (map.len m)) held ∙ (let l = long in omega arith) in
    let rest = same_gets pairs (map.remove m k) apart.1 (others_stay m pair pairs apart.0 has.1) fewer q in
    found_or_not (bytes_eq k q) m k q v refl has.0
    ∙ ap (cond (bytes_eq k q) (Some v)) (ap (λ b. cond b None (map.get m q)) (sym (ties q k)) ∙ sym (get-remove nat_list_cmp_total m k q) ∙ rest)
    ∙ ap (λ b. cond b (Some v) (map.get (map_of pairs) q)) (sym (ties q k)) ∙ sym (get-insert nat_list_cmp_total (map_of pairs) k v q)

pub same_from_each : (m : OptionMap) (pairs : List Pair) → AreApart pairs → map.len m ≡ map.len (map_of pairs) → HasEach m pairs → m ≡ map_of pairs
same_from_each m pairs apart long has =
    same_map nat_list_cmp_total (slice_cmp-IsAntisymmetric nat_cmp-IsAntisymmetric) m (map_of pairs) (same_gets pairs m apart has (long ∙ len_map pairs apart))

-- a later option is not lost by an earlier one of another name
later_has : (m : OptionMap) (pair : Pair) (pairs : List Pair) → AllByRecursion (λ later. SameName pair later → ⊥) pairs → HasEach m pairs → HasEach (map.insert m (lower pair.0) (value_of (lower pair.0) pair.1)) pairs
later_has m pair [] apart has = tt
later_has m pair (q ∷ pairs) apart has = (
  get-insert nat_list_cmp_total m (lower pair.0) (value_of (lower pair.0) pair.1) (lower q.0)
      ∙ ap (λ b. cond b (Some (value_of (lower pair.0) pair.1)) (map.get m (lower q.0))) (ties (lower q.0) (lower pair.0) ∙ bytes_eq_no (lower pair.0) (lower q.0) apart.0)
      ∙ has.0,
  later_has m pair pairs apart.1 has.1,
)

pub map_has_each : (pairs : List Pair) → AreApart pairs → HasEach (map_of pairs) pairs
map_has_each [] apart = tt
map_has_each (pair ∷ pairs) apart = (
  get-insert nat_list_cmp_total (map_of pairs) (lower pair.0) (value_of (lower pair.0) pair.1) (lower pair.0)
      ∙ ap (λ b. cond b (Some (value_of (lower pair.0) pair.1)) (map.get (map_of pairs) (lower pair.0))) (ties (lower pair.0) (lower pair.0) ∙ bytes_eq_yes (lower pair.0) (lower pair.0) refl),
  later_has (map_of pairs) pair pairs apart.0 (map_has_each pairs apart.1),
)
