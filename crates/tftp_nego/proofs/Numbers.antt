-- The numbers of options are in range.
use Rattle.std.proofs.Common.{◌≡◌, ℕ, ◌<◌, ◌≤◌, Bool, true, false, cond, List, Option, Some, None, refl, sym, ap, subst, ◌∙◌, arith, option_and_then, codes, nat_le, ◌&&◌}
use Rattle.std.specs.Ordering.{nat_cmp}
use Rattle.std.specs.Cmp.Lexicographic.{slice_cmp}
use Rattle.std.specs.FinMap as map
use Rattle.std.specs.FinMap.{get-empty}
use Rattle.std.specs.Str.Parse.{digits_value}
use Rattle.std.proofs.lemmas.Bool.{leb-true, and_parts}
use Rattle.tftp_packet.specs.{OptionMap, OptionValue, Num, Text, value_of, is_known_number, is_number, is_within, range_of, number_in, no_options, Pair, map_of}
use Rattle.tftp_nego.specs.{AreInRange}
use Rattle.tftp_nego.proofs.OptionMaps.{text_of_value}

cond_number : (b : Bool) (d n : ℕ) (text : List ℕ) → cond b (Num d) (Text text) ≡ Num n → (b ≡ true) × (d ≡ n)
cond_number true d n text e = (refl, cc)
cond_number false d n text e = absurd (let x : ⊥ = cc in x)

number_in_range : (name text : List ℕ) (n : ℕ) → value_of name text ≡ Num n → is_within (range_of name) n ≡ true
unfolding value_of is_known_number
number_in_range name text n e =
    let (known, same) = cond_number (is_number text && is_within (range_of name) (digits_value 10 text)) (digits_value 10 text) n text e in
    subst (λ k. is_within (range_of name) k ≡ true) same (and_parts (is_number text) (is_within (range_of name) (digits_value 10 text)) known).1

pub map_in_range : (pairs : List Pair) → AreInRange (map_of pairs)
map_in_range pairs name n e = let (text, found, is) = text_of_value pairs name (Num n) e in number_in_range name text n is

pub empty_in_range : (m : OptionMap) → m ≡ no_options → AreInRange m
empty_in_range m is name n e =
    let none : map.get no_options name ≡ None = get-empty (slice_cmp nat_cmp) name in
    let same : None ≡ Some (Num n) = sym none ∙ ap (λ o. map.get o name) (sym is) ∙ e in
    absurd (let y : ⊥ = cc in y)

within : (low high n : ℕ) → (nat_le low n && nat_le n high) ≡ true → (low ≤ n) × (n ≤ high)
within low high n e = let p = and_parts (nat_le low n) (nat_le n high) e in (leb-true low n p.0, leb-true n high p.1)

pub blksize_range : (n : ℕ) → is_within (range_of (codes "blksize")) n ≡ true → (8 ≤ n) × (n ≤ 65464)
unfolding range_of
blksize_range n e = within 8 65464 n e

pub timeout_range : (n : ℕ) → is_within (range_of (codes "timeout")) n ≡ true → (1 ≤ n) × (n ≤ 255)
unfolding range_of
timeout_range n e = within 1 255 n e

pub windowsize_range : (n : ℕ) → is_within (range_of (codes "windowsize")) n ≡ true → (1 ≤ n) × (n ≤ 65535)
unfolding range_of
windowsize_range n e = within 1 65535 n e

-- ---- a number that is found
pub has_number : (o : Option OptionValue) (n : ℕ) → Some n ≡ option_and_then number_in o → o ≡ Some (Num n)
has_number (Some (Num m)) n e = cc
has_number _ n e = absurd (let x : ⊥ = cc in x)

pub block_size_some : (pairs : List Pair) (n : ℕ) → Some n ≡ option_and_then number_in (map.get (map_of pairs) (codes "blksize")) → 0 < n
block_size_some pairs n e =
    let bounds = blksize_range n (map_in_range pairs (codes "blksize") n (has_number _ n e)) in omega arith
