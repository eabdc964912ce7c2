-- Maps of two options, and what is known after an OACK that has them.
use Rattle.std.proofs.Common.{◌≡◌, ◌≢◌, ℕ, ◌+◌, ◌/◌, ◌<◌, ◌≤◌, ◌⊎◌, Bool, true, false, cond, List, [], ◌∷◌, Option, Some, None, codes, inl, inr, refl, sym, subst, ◌∙◌, arith}
use Rattle.std.specs.FinMap as map
use Rattle.std.specs.Ordering.{nat_cmp, eq_by_cmp}
use Rattle.std.specs.Cmp.Lexicographic.{slice_cmp, nat_list_cmp_total}
use Rattle.tftp_packet.specs.{OptionMap, OptionValue, Num, no_options, RequestParts}
use Rattle.tftp_packet.proofs.RoundsLemmas.Greatest.{two_bytes_within}
use Rattle.tftp_packet.specs.Rounds.{greatest_of}
use Rattle.tftp_packet.specs.{Rollover}
use Rattle.tftp_packet.specs.Hosts.{Header}
use Rattle.law_model.specs.Model.{number_or, option_or, eight_a_block, eight_by_four}
use Rattle.law_model.proofs.ModelLemmas.Worked.{eight_for_blksize}
use Rattle.law_model.specs.{Oacked, Terms}
use Rattle.tftp_nego.specs.{MayAnswer, MayAgree, Holds, NegoFault}
use Rattle.law_end.specs.{Agrees, size_from, terms_after}
use Rattle.tftp_nego.proofs.Tested.{AllAsked, agreement_kept}
use Rattle.tests_worked.proofs.Chains.{OackFine}
use Rattle.tests_worked.proofs.OneOption.{has_some, name_is, found_single, only_single}

abbrev pub two : List ℕ → ℕ → List ℕ → ℕ → OptionMap
two one a other b = map.from_entries ((one, Num a) ∷ (other, Num b) ∷ [])

only_two : (one other : List ℕ) (a b : ℕ) (name : List ℕ) (value : OptionValue) → map.get (two one a other b) name ≡ Some value → ((name ≡ one) × (value ≡ Num a)) ⊎ ((name ≡ other) × (value ≡ Num b))
only_two one other a b name value e = by_first (eq_by_cmp (slice_cmp nat_cmp) name one) (eq_by_cmp (slice_cmp nat_cmp) name other) refl refl
    (sym (map.get-from_entries nat_list_cmp_total ((one, Num a) ∷ (other, Num b) ∷ []) name) ∙ e)
  where
    by_first : (first second : Bool) → eq_by_cmp (slice_cmp nat_cmp) name one ≡ first → eq_by_cmp (slice_cmp nat_cmp) name other ≡ second
        → cond first (Some (Num a)) (cond second (Some (Num b)) None) ≡ Some value → ((name ≡ one) × (value ≡ Num a)) ⊎ ((name ≡ other) × (value ≡ Num b))
    by_first true second test rest found = inl (name_is name one test, cc)
    by_first false true test rest found = inr (name_is name other rest, cc)
    by_first false false test rest found = absurd (cc)

pub two_answer : (r : RequestParts) (one other : List ℕ) (a b c d : ℕ) → r.options ≡ two one a other b → map.get (two one a other b) one ≡ Some (Num a) → map.get (two one a other b) other ≡ Some (Num b)
    → MayAnswer r.side one a c → MayAnswer r.side other b d → AllAsked r (two one c other d)
two_answer r one other a b c d is first second may also name value e = elim (only_two one other c d name value e) [
  | inl at ↦ (a, c, subst (λ o. map.get o name ≡ Some (Num a)) (sym is) (subst (λ n. map.get (two one a other b) n ≡ Some (Num a)) (sym at.0) first), at.1, subst (λ n. MayAnswer r.side n a c) (sym at.0) may)
  | inr at ↦ (b, d, subst (λ o. map.get o name ≡ Some (Num b)) (sym is) (subst (λ n. map.get (two one a other b) n ≡ Some (Num b)) (sym at.0) second), at.1, subst (λ n. MayAnswer r.side n b d) (sym at.0) also)
]

-- a map with an option is not empty
pub not_empty : (options : OptionMap) (name : List ℕ) (a : ℕ) → map.get options name ≡ Some (Num a) → options ≢ no_options
not_empty options name a = has_some options name (Num a)

pub fine : (rollover : Option Rollover) (n : ℕ) (asked : RequestParts) (oack : OptionMap) → AllAsked asked oack → oack ≢ no_options → (20 < n → Holds rollover NegoFault.BeyondBlock65535 asked oack → ⊥) → OackFine rollover asked oack n
fine rollover n asked oack all there few = record {
  agreement = λ broken low. agreement_kept asked oack there all broken;
  beyond = few;
}

abbrev pub terms : Header → RequestParts → Option OptionValue → Option OptionValue → Option OptionValue → Terms
terms h asked size window length = record {
  named = h.named;
  side = asked.side;
  reply = Oacked;
  blksize = number_or 512 size;
  windowsize = number_or 1 window;
  greatest = greatest_of h.rollover;
  size = size_from asked.mode length;
}

pub terms_are : (h : Header) (asked : RequestParts) (options : OptionMap) (size window length : Option OptionValue) → map.get options (codes "blksize") ≡ size
    → map.get options (codes "windowsize") ≡ window → map.get options (codes "tsize") ≡ length → terms h asked size window length ≡ terms_after h asked (Agrees options)
terms_are h asked options size window length a b c = λ i. terms h asked (sym a i) (sym b i) (sym c i)

-- what such a map answers
pub found : (one other : List ℕ) (a b : ℕ) (name : List ℕ) → map.get (two one a other b) name ≡ cond (eq_by_cmp (slice_cmp nat_cmp) name one) (Some (Num a)) (cond (eq_by_cmp (slice_cmp nat_cmp) name other) (Some (Num b)) None)
found one other a b name = map.get-from_entries nat_list_cmp_total ((one, Num a) ∷ (other, Num b) ∷ []) name

-- without a size no size is too great
pub no_size : (rollover : Option Rollover) (asked : RequestParts) (options : OptionMap) → map.get options (codes "tsize") ≡ None → Holds rollover NegoFault.BeyondBlock65535 asked options → ⊥
no_size rollover asked options none (size, octet, get, many) = let both : None ≡ Some (Num size) = sym none ∙ get in absurd (cc)

-- nor is a small one
pub small_size : (rollover : Option Rollover) (asked : RequestParts) (options : OptionMap) (size b : ℕ) → map.get options (codes "tsize") ≡ Some (Num size) → option_or 512 options (codes "blksize") ≡ b → size / b + 1 ≤ 65535
    → Holds rollover NegoFault.BeyondBlock65535 asked options → ⊥
small_size rollover asked options size b is blksize few (other, octet, get, many) =
    let both : Some (Num size) ≡ Some (Num other) = sym is ∙ get in
    let same : size ≡ other = cc in
    let least = two_bytes_within rollover in
    let less : greatest_of rollover < size / b + 1 = subst (λ n. greatest_of rollover < size / n + 1) blksize (subst (λ n. greatest_of rollover < n / option_or 512 options (codes "blksize") + 1) (sym same) many) in
    omega arith

-- ---- blocks of eight, alone and in a window of four

abbrev pub blksize : List ℕ
blksize = codes "blksize"

abbrev pub windowsize : List ℕ
windowsize = codes "windowsize"

abbrev pub tsize : List ℕ
tsize = codes "tsize"

pub no_size_of_both : (size : ℕ) → map.get eight_by_four tsize ≡ Some (Num size) → ⊥
no_size_of_both size e = let none = found blksize windowsize 8 4 tsize in absurd (cc)

pub no_size_of_one : (size : ℕ) → map.get eight_a_block tsize ≡ Some (Num size) → ⊥
no_size_of_one size e = let none = found_single blksize (Num 8) tsize in absurd (cc)

pub both_may_be_agreed : (rollover : Option Rollover) (r : RequestParts) → r.options ≡ eight_by_four → MayAgree rollover r eight_by_four
both_may_be_agreed rollover r is = record {
  asked = two_answer r blksize windowsize 8 4 8 4 is (found blksize windowsize 8 4 blksize) (found blksize windowsize 8 4 windowsize) (inl (refl, omega arith)) (inr (inl (refl, omega arith)));
  size = λ mode size e. absurd (no_size_of_both size e);
}

pub eight_may_be_agreed : (rollover : Option Rollover) (r : RequestParts) → r.options ≡ eight_a_block → MayAgree rollover r eight_a_block
eight_may_be_agreed rollover r is = record {
  asked = λ name value e.
      let size = only_single blksize (Num 8) name value e in
      (8, 8, subst (λ o. map.get o name ≡ Some (Num 8)) (sym is) (subst (λ n. map.get eight_a_block n ≡ Some (Num 8)) (sym size.0) eight_for_blksize), size.1, inl (size.0, omega arith));
  size = λ mode size e. absurd (no_size_of_one size e);
}
