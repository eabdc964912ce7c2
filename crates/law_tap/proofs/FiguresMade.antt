-- What fits the figures explains all that was said.
use Rattle.std.proofs.Common.{◌≡◌, ◌≢◌, ◌⊎◌, ℕ, zero, suc, ◌+◌, ◌-◌, ◌*◌, ◌/◌, ◌%◌, ◌^◌, ◌<◌, ◌≤◌, Bool, true, false, List, length, Option, Some, None, codes, inl, inr, refl, sym, subst, ap, ◌∙◌, arith}
use Rattle.std.proofs.lemmas.Bool.{true≢false, cases_lt, le-leb}
use Rattle.std.proofs.lemmas.Nat.{div-mul-add, mod-mul-add}
use Rattle.std.specs.FinMap as map
use Rattle.tftp_packet.specs.{OptionMap, OptionValue, Num, Text, no_options, range_of, is_within, RequestParts, Message, Spells, Side, Get, Put, End, Client, Mode, Octet, Netascii}
use Rattle.tftp_packet.proofs.RoundsLemmas.Greatest.{two_bytes_within, most_blocks}
use Rattle.tftp_packet.specs.Rounds.{greatest_of}
use Rattle.tftp_nego.specs.{AreInRange, MayAgree, MayAnswer, number_or, option_or}
use Rattle.tftp_nego.proofs.Numbers.{map_in_range, blksize_range, timeout_range, windowsize_range}
use Rattle.law_end.specs.{size_from}
use Rattle.law_end.proofs.Soundness.MadeMeaning.{from_eight, none_found, none_may_be_agreed}
use Rattle.law_tap.specs.TapCapture.{TapDatagram, TapSides}
use Rattle.law_tap.specs.LossyRules.{IsSaidBy, IsSaid, IsNumber, IsBlockLength, Explains, NothingExplains, block_size}
use Rattle.law_tap.specs.SaidFigures.{Figures, AreFigures, HaveLength, FitsSize, FitsTotal, FitsTerms, FitsAgreed, AsksFor, MayBeUsual, FitsLowered, FitsUnseen, FitsSaid, IsOffered, IsFair}
use Rattle.law_tap.proofs.FiguresFit.{window_is_no_size, timeout_is_no_size, total_is_no_size}
use Rattle.law_tap.proofs.LossySaid.{any_there}
use Rattle.law_tap.proofs.OneOption.{IsName, size_name, window_name, timeout_name, total_name, one_option, one_there, other_none, one_spelled, one_may, some_option}

-- ---- names and ranges

window_is_no_total : codes "windowsize" ≡ codes "tsize" → ⊥
window_is_no_total is = let e : ◌≡◌ {A = ℕ} 10 5 = ap length is in omega (arith, e)

timeout_is_no_total : codes "timeout" ≡ codes "tsize" → ⊥
timeout_is_no_total is = let e : ◌≡◌ {A = ℕ} 7 5 = ap length is in omega (arith, e)

size_within : (b : ℕ) → 8 ≤ b → b ≤ 65464 → is_within (range_of (codes "blksize")) b ≡ true
unfolding range_of
size_within b low up = rw (le-leb 8 b low, le-leb b 65464 up) refl

total_within : (n : ℕ) → n ≤ 18446744073709551615 → is_within (range_of (codes "tsize")) n ≡ true
unfolding range_of
total_within n up = rw (le-leb 0 n (omega arith), le-leb n 18446744073709551615 up) refl

usual_size : block_size no_options ≡ 512
usual_size = ap (number_or 512) (none_found (codes "blksize"))

-- ---- a total for a size

abbrev or_zero : Option ℕ → ℕ
or_zero (Some n) = n
or_zero None = 0

abbrev total_of : ℕ → Figures → ℕ
total_of b f = (f.reach - 1) * b + or_zero f.tail

less_fits : (b total : ℕ) (f : Figures) → 1 ≤ f.greatest → FitsSize b f → total / b ≡ f.reach - 1 → ((long : ℕ) → f.tail ≡ Some long → (1 ≤ f.reach) × (long ≡ total % b)) → FitsTotal b total f
less_fits b total f room fits is tail = record {
  numbered = (let few = fits.numbered in omega (arith, is, few, room));
  reach = omega (arith, is);
  below = fits.below;
  tail = λ long at. let t = tail long at in inr (omega (arith, is, t.0), t.1);
}

size_fits_total : (b : ℕ) (f : Figures) → 0 < b → 1 ≤ f.greatest → ((long : ℕ) → f.tail ≡ Some long → 1 ≤ f.reach) → FitsSize b f → FitsTotal b (total_of b f) f
size_fits_total b f some room low fits = by f.tail refl where
  by : (o : Option ℕ) → f.tail ≡ o → FitsTotal b ((f.reach - 1) * b + or_zero o) f
  by None is = less_fits b ((f.reach - 1) * b + 0) f room fits (div-mul-add (f.reach - 1) b 0 some) (λ long at. let both : None ≡ Some long = sym is ∙ at in absurd (cc))
  by (Some t) is = elim (fits.tail t is) [
    | inl short ↦ less_fits b ((f.reach - 1) * b + t) f room fits (div-mul-add (f.reach - 1) b t short)
        (λ long at. let same : long ≡ t = (let both : Some t ≡ Some long = sym is ∙ at in sym (cc)) in (low long at, same ∙ sym (mod-mul-add (f.reach - 1) b t short)))
    | inr whole ↦ full t is whole.0 whole.1
  ]
    where
      full : (t : ℕ) → f.tail ≡ Some t → t ≡ b → f.reach < f.greatest → FitsTotal b ((f.reach - 1) * b + t) f
      full t is same up =
          let first = low t is in
          let more : (f.reach - 1) * b + t ≡ f.reach * b + 0 = whole f.reach b t first same in
          let count : ((f.reach - 1) * b + t) / b ≡ f.reach = ap (λ n. n / b) more ∙ div-mul-add f.reach b 0 some in
          record {
            numbered = omega (arith, count, up);
            reach = omega (arith, count);
            below = fits.below;
            tail = λ long at. let these : long ≡ t = (let both : Some t ≡ Some long = sym is ∙ at in sym (cc)) in inl (omega (arith, count), these ∙ same);
          }
        where
          whole : (r b t : ℕ) → 1 ≤ r → t ≡ b → (r - 1) * b + t ≡ r * b + 0
          whole zero b t low same = omega (arith, low)
          whole (suc r) b t low same = subst (λ x. (suc r - 1) * b + x ≡ suc r * b + 0) (sym same) (again r b) where
            again : (r b : ℕ) → (suc r - 1) * b + b ≡ suc r * b + 0
            again r b = let back : suc r - 1 ≡ r = omega arith in ap (λ n. n * b + b) back ∙ ring_step r b where
              ring_step : (r b : ℕ) → r * b + b ≡ suc r * b + 0
              ring_step r b = omega arith

-- ---- all that was said

module _ (s : TapSides) (asked : RequestParts) (tapped : List TapDatagram) (f : Figures) (are : AreFigures f s tapped) where
  room : 1 ≤ f.greatest
  room = let is = are.greatest in let least = two_bytes_within s.rollover in omega (arith, is, least)

  within : f.greatest ≤ 8388607
  within = let is = are.greatest in let most = most_blocks s.rollover in omega (arith, is, most)

  module _ (low : (e : End) (k : ℕ) (bytes : List ℕ) → IsSaid s tapped e (Message.Data k bytes) → 1 ≤ k) where
    tail_low : (long : ℕ) → f.tail ≡ Some long → 1 ≤ f.reach
    tail_low long is = let (all, (e, k, bytes, said, at)) = subst (HaveLength s tapped (λ k. k ≡ f.reach)) is are.tail in let first = low e k bytes said in omega (arith, at, first)

    module _ (agreed : OptionMap) (total : ℕ) (may : MayAgree s.rollover asked agreed) (spelled : agreed ≢ no_options → (payload : List ℕ) × Spells payload (Message.Oack agreed))
        (given : (e : End) (options : OptionMap) → IsSaid s tapped e (Message.Oack options) → (options ≡ agreed) × (agreed ≢ no_options))
        (nought : asked.side ≡ Get → f.zero ≡ true → agreed ≢ no_options)
        (sized : asked.mode ≡ Octet → (size : ℕ) → map.get agreed (codes "tsize") ≡ Some (Num size) → total ≡ size) (t : FitsTotal (block_size agreed) total f) where
      block_is : (e : End) (k : ℕ) (bytes : List ℕ) → IsSaid s tapped e (Message.Data k bytes) → IsBlockLength (block_size agreed) total k (length bytes)
      block_is e k bytes said = elim (cases_lt k f.reach) [
        | inl under ↦ lower_one f.below refl are.below under
        | inr up ↦ let top = are.highest k (e, inr (bytes, said)) in let at : k ≡ f.reach = omega (arith, top, up) in top_one f.tail refl are.tail at
      ]
        where
          lower_one : (o : Option ℕ) → f.below ≡ o → HaveLength s tapped (λ k. k < f.reach) o → k < f.reach → IsBlockLength (block_size agreed) total k (length bytes)
          lower_one None is none under = absurd (none e k bytes said under)
          lower_one (Some long) is all under = let high = t.reach in inl (omega (arith, under, high), all.0 e k bytes said under ∙ t.below long is)

          top_one : (o : Option ℕ) → f.tail ≡ o → HaveLength s tapped (λ k. k ≡ f.reach) o → k ≡ f.reach → IsBlockLength (block_size agreed) total k (length bytes)
          top_one None is none at = absurd (none e k bytes said at)
          top_one (Some long) is all at = subst (λ n. IsBlockLength (block_size agreed) total n (length bytes)) (sym at) (subst (IsBlockLength (block_size agreed) total f.reach) (sym (all.0 e k bytes said at)) (t.tail long is))

      made : Explains s asked tapped agreed total
      made = record {
        may = may;
        spelled = spelled;
        given = given;
        zero = λ get e said. nought get (are.zero.1 (e, said));
        size = sized;
        numbered = subst (λ g. total / block_size agreed + 1 ≤ g) are.greatest t.numbered;
        numbers = λ k is. let top = are.highest k is in let high = t.reach in omega (arith, top, high);
        blocks = block_is;
      }

    -- ---- with an OACK

    module _ (agreed : OptionMap) (fair : IsFair s.rollover asked agreed) (from : (e : End) × IsSaid s tapped e (Message.Oack agreed)) (all : (e : End) (options : OptionMap) → IsSaid s tapped e (Message.Oack options) → options ≡ agreed) where
      seen : (payload : List ℕ) × Spells payload (Message.Oack agreed)
      seen = let (d, at, is) = any_there (IsSaidBy s from.0 (Message.Oack agreed)) tapped from.1 in (d.payload, is.spells)

      in_range : AreInRange agreed
      in_range = let t = seen.1 in subst AreInRange (sym t.1.map) (map_in_range t.1.pairs)

      some_size : 0 < block_size agreed
      some_size = let eight = from_eight (map.get agreed (codes "blksize")) (in_range (codes "blksize")) in omega (arith, eight)

      explain : (total : ℕ) → (asked.mode ≡ Octet → (size : ℕ) → map.get agreed (codes "tsize") ≡ Some (Num size) → total ≡ size) → FitsTotal (block_size agreed) total f → NothingExplains s asked tapped → ⊥
      explain total sized t none = none agreed total (made agreed total fair.may (λ some. seen) (λ e options said. (all e options said, fair.some)) (λ get is. fair.some) sized t)

      free : FitsSize (block_size agreed) f → FitsTotal (block_size agreed) (total_of (block_size agreed) f) f
      free fits = size_fits_total (block_size agreed) f some_size room tail_low fits

      pub agreed_explains : FitsAgreed asked agreed f → NothingExplains s asked tapped → ⊥
      agreed_explains fits none = by (map.get agreed (codes "tsize")) refl asked.mode refl fits where
        by : (o : Option OptionValue) → map.get agreed (codes "tsize") ≡ o → (mode : Mode) → asked.mode ≡ mode → FitsTerms (block_size agreed) (size_from mode o) f → ⊥
        by (Some (Num size)) is Octet mode fits = explain size (λ octet other at. let both : Some (Num size) ≡ Some (Num other) = sym is ∙ at in cc) fits none
        by (Some (Num size)) is Netascii mode fits = explain (total_of (block_size agreed) f) (λ octet other at. let both : Netascii ≡ Octet = sym mode ∙ octet in absurd (cc)) (free fits) none
        by (Some (Text text)) is Octet mode fits = explain (total_of (block_size agreed) f) (λ octet other at. let both : Some (Text text) ≡ Some (Num other) = sym is ∙ at in absurd (cc)) (free fits) none
        by (Some (Text text)) is Netascii mode fits = explain (total_of (block_size agreed) f) (λ octet other at. let both : Some (Text text) ≡ Some (Num other) = sym is ∙ at in absurd (cc)) (free fits) none
        by None is Octet mode fits = explain (total_of (block_size agreed) f) (λ octet other at. let both : None ≡ Some (Num other) = sym is ∙ at in absurd (cc)) (free fits) none
        by None is Netascii mode fits = explain (total_of (block_size agreed) f) (λ octet other at. let both : None ≡ Some (Num other) = sym is ∙ at in absurd (cc)) (free fits) none

    -- ---- without one

    module _ (none_said : (e : End) (options : OptionMap) → IsSaid s tapped e (Message.Oack options) → ⊥) (request : IsSaid s tapped Client (Message.Request asked)) where
      asked_range : AreInRange asked.options
      asked_range = let (d, at, is) = any_there (IsSaidBy s Client (Message.Request asked)) tapped request in subst AreInRange (sym is.spells.1.options) (map_in_range is.spells.1.pairs)

      -- with nothing agreed
      plain : ((asked.side ≡ Get) → (f.zero ≡ true) → ⊥) → FitsSize 512 f → NothingExplains s asked tapped → ⊥
      plain nought fits none =
          none no_options (total_of 512 f) (made no_options (total_of 512 f) (none_may_be_agreed s.rollover asked) (λ some. absurd (some refl)) (λ e options said. absurd (none_said e options said)) (λ get is. absurd (nought get is))
          (λ octet size at. let both : None ≡ Some (Num size) = sym (none_found (codes "tsize")) ∙ at in absurd (cc))
          (subst (λ b. FitsTotal b (total_of 512 f) f) (sym usual_size) (size_fits_total 512 f (omega arith) room tail_low fits)))

      -- with one option
      one : (name : List ℕ) (is : IsName name) (n number b total : ℕ) (small : n < 2 ^ 64) (range : is_within (range_of name) n ≡ true) → map.get asked.options name ≡ Some (Num number) → MayAnswer asked.side name number n
          → block_size (one_option name n) ≡ b → ((size : ℕ) → map.get (one_option name n) (codes "tsize") ≡ Some (Num size) → total ≡ size) → FitsTotal b total f → NothingExplains s asked tapped → ⊥
      one name is n number b total small range has may size sized t none =
          let whole = subst (λ x. FitsTotal x total f) (sym size) t in
          none (one_option name n) total (made (one_option name n) total
          (one_may name is n small range s.rollover asked number has may (λ length at. subst (λ x. x / option_or 512 (one_option name n) (codes "blksize") + 1 ≤ greatest_of s.rollover) (sized length at)
          (subst (λ g. total / option_or 512 (one_option name n) (codes "blksize") + 1 ≤ g) are.greatest whole.numbered)))
          (λ some. one_spelled name is n small range) (λ e options said. absurd (none_said e options said)) (λ get at. some_option name is n small range) (λ octet length at. sized length at) whole)

      tail_most : FitsSize 512 f → or_zero f.tail ≤ 512
      tail_most fits = by f.tail refl where
        by : (o : Option ℕ) → f.tail ≡ o → or_zero o ≤ 512
        by None is = omega arith
        by (Some t) is = elim (fits.tail t is) [ inl short ↦ omega (arith, short) | inr whole ↦ let same = whole.0 in omega (arith, same) ]

      usual_other : asked.side ≡ Get → AsksFor asked (codes "windowsize") ⊎ (AsksFor asked (codes "timeout") ⊎ AsksFor asked (codes "tsize")) → FitsSize 512 f → NothingExplains s asked tapped → ⊥
      usual_other get (inl (n, has)) fits none =
          let range = asked_range (codes "windowsize") n has in
          let bounds = windowsize_range n range in
          let small : n < 2 ^ 64 = omega (arith, bounds.1) in
          one (codes "windowsize") window_name n n 512 (total_of 512 f) small range has (inr (inl (refl, omega arith)))
          (ap (number_or 512) (other_none (codes "windowsize") window_name n small range (codes "blksize") (λ is. window_is_no_size (sym is))))
          (λ size at. let both : None ≡ Some (Num size) = sym (other_none (codes "windowsize") window_name n small range (codes "tsize") window_is_no_total) ∙ at in absurd (cc))
          (size_fits_total 512 f (omega arith) room tail_low fits) none
      usual_other get (inr (inl (n, has))) fits none =
          let range = asked_range (codes "timeout") n has in
          let bounds = timeout_range n range in
          let small : n < 2 ^ 64 = omega (arith, bounds.1) in
          one (codes "timeout") timeout_name n n 512 (total_of 512 f) small range has (inr (inr (inl (refl, refl))))
          (ap (number_or 512) (other_none (codes "timeout") timeout_name n small range (codes "blksize") (λ is. timeout_is_no_size (sym is))))
          (λ size at. let both : None ≡ Some (Num size) = sym (other_none (codes "timeout") timeout_name n small range (codes "tsize") timeout_is_no_total) ∙ at in absurd (cc))
          (size_fits_total 512 f (omega arith) room tail_low fits) none
      usual_other get (inr (inr (number, has))) fits none =
          let n = total_of 512 f in
          let most = tail_most fits in
          let up : n ≤ 18446744073709551615 = below_all f.reach (or_zero f.tail) (let few = fits.numbered in let most = within in omega (arith, few, most)) most in
          let small : n < 2 ^ 64 = omega (arith, up) in
          let range = total_within n up in
          one (codes "tsize") total_name n number 512 n small range has (inr (inr (inr (refl, λ put. let both : Get ≡ Put = sym get ∙ put in absurd (cc)))))
          (ap (number_or 512) (other_none (codes "tsize") total_name n small range (codes "blksize") (λ is. total_is_no_size (sym is))))
          (λ size at. let both : Some (Num n) ≡ Some (Num size) = sym (one_there (codes "tsize") total_name n small range) ∙ at in cc)
          (size_fits_total 512 f (omega arith) room tail_low fits) none
        where
          below_all : (r t : ℕ) → r ≤ 8388607 → t ≤ 512 → (r - 1) * 512 + t ≤ 18446744073709551615
          below_all r t first last = omega (arith, first, last)

      usual_explains : MayBeUsual asked f → FitsSize 512 f → NothingExplains s asked tapped → ⊥
      usual_explains may fits none = by asked.side refl f.zero refl where
        by : (side : Side) → asked.side ≡ side → (b : Bool) → f.zero ≡ b → ⊥
        by Get get true is = usual_other get (may get is) fits none
        by Get get false is = plain (λ _ zero. true≢false (sym zero ∙ is)) fits none
        by Put put b is = plain (λ get zero. let both : Get ≡ Put = sym get ∙ put in cc) fits none

      lowered_explains : FitsLowered asked f → NothingExplains s asked tapped → ⊥
      lowered_explains (most, has, b, low, up, fits) none =
          let bounds = blksize_range most (asked_range (codes "blksize") most has) in
          let range = size_within b low (omega (arith, up, bounds.1)) in
          let small : b < 2 ^ 64 = omega (arith, up, bounds.1) in
          one (codes "blksize") size_name b most b (total_of b f) small range has (inl (refl, up))
          (ap (number_or 512) (one_there (codes "blksize") size_name b small range))
          (λ size at. let both : None ≡ Some (Num size) = sym (other_none (codes "blksize") size_name b small range (codes "tsize") total_is_no_size) ∙ at in absurd (cc))
          (size_fits_total b f (omega (arith, low)) room tail_low fits) none

      pub unseen_explains : FitsUnseen asked f → NothingExplains s asked tapped → ⊥
      unseen_explains (inl (may, fits)) none = usual_explains may fits none
      unseen_explains (inr lowered) none = lowered_explains lowered none
