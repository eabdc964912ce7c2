-- Whether one transfer explains all that was said is decided by the figures.
use Rattle.std.proofs.Common.{◌≡◌, ◌≢◌, ◌⊎◌, ℕ, zero, suc, ◌+◌, ◌-◌, ◌*◌, ◌/◌, ◌%◌, ◌<◌, ◌≤◌, Bool, true, List, [], ◌∷◌, length, Option, Some, None, codes, inl, inr, refl, sym, subst, ap, ◌∙◌, arith}
use Rattle.std.proofs.lemmas.Nat.{mod_below, div-add-mod'}
use Rattle.std.specs.Cmp.Lexicographic.{nat_list_cmp_total}
use Rattle.std.specs.FinMap as map
use Rattle.std.specs.FinMap.{same_map, nat_cmp-IsAntisymmetric, slice_cmp-IsAntisymmetric}
use Rattle.tftp_packet.specs.{OptionMap, OptionValue, Num, Text, no_options, RequestParts, Message, Spells, Side, Get, Put, End, Mode, Octet, Netascii}
use Rattle.tftp_nego.specs.{AreInRange, MayAgree, MayAnswer, number_or}
use Rattle.tftp_nego.proofs.Numbers.{map_in_range}
use Rattle.law_end.specs.{size_from}
use Rattle.law_end.proofs.Soundness.MadeMeaning.{from_eight, none_found}
use Rattle.law_tap.specs.TapCapture.{TapDatagram, TapSides}
use Rattle.law_tap.specs.LossyRules.{IsSaid, IsNumber, IsBlockLength, Explains, NothingExplains, block_size}
use Rattle.law_tap.specs.SaidFigures.{Figures, AreFigures, HaveLength, FitsSize, FitsTotal, FitsTerms, FitsAgreed, AsksFor, MayBeUsual, FitsLowered, FitsUnseen, FitsSaid, IsOffered}

-- ---- from a total to a size

total_fits_size : (b total : ℕ) (f : Figures) → 0 < b → FitsTotal b total f → FitsSize b f
total_fits_size b total f some t = record { numbered = (let most = t.numbered in let high = t.reach in omega (arith, most, high)); below = t.below; tail = λ long is. by long (t.tail long is) } where
  by : (long : ℕ) → IsBlockLength b total f.reach long → (long < b) ⊎ ((long ≡ b) × (f.reach < f.greatest))
  by long (inl whole) = let up = whole.0 in let most = t.numbered in inr (whole.1, omega (arith, up, most))
  by long (inr last) = let is = last.1 in let less = mod_below total b some in inl (omega (arith, is, less))

-- ---- names

abbrev first_letter : List ℕ → ℕ
first_letter [] = 0
first_letter (c ∷ rest) = c

pub window_is_no_size : codes "blksize" ≡ codes "windowsize" → ⊥
window_is_no_size is = let e : ◌≡◌ {A = ℕ} 98 119 = ap first_letter is in omega (arith, e)

pub timeout_is_no_size : codes "blksize" ≡ codes "timeout" → ⊥
timeout_is_no_size is = let e : ◌≡◌ {A = ℕ} 98 116 = ap first_letter is in omega (arith, e)

pub total_is_no_size : codes "blksize" ≡ codes "tsize" → ⊥
total_is_no_size is = let e : ◌≡◌ {A = ℕ} 98 116 = ap first_letter is in omega (arith, e)

-- a block has some bytes
pub block_size_some : (s : TapSides) (asked : RequestParts) (tapped : List TapDatagram) (agreed : OptionMap) (total : ℕ) → Explains s asked tapped agreed total → 0 < block_size agreed
block_size_some s asked tapped agreed total x = by (map.get agreed (codes "blksize")) refl where
  by : (o : Option OptionValue) → map.get agreed (codes "blksize") ≡ o → 0 < block_size agreed
  by None is = let usual : block_size agreed ≡ 512 = ap (number_or 512) is in omega (arith, usual)
  by (Some value) is =
      let t = x.spelled (λ none. let both : None ≡ Some value = sym (none_found (codes "blksize")) ∙ ap (λ o. map.get o (codes "blksize")) (sym none) ∙ is in absurd (cc)) in
      let eight = from_eight (map.get agreed (codes "blksize")) (subst AreInRange (sym t.1.1.map) (map_in_range t.1.1.pairs) (codes "blksize")) in
      omega (arith, eight)

module _ (s : TapSides) (asked : RequestParts) (tapped : List TapDatagram) (f : Figures) (are : AreFigures f s tapped) (agreed : OptionMap) (total : ℕ) (x : Explains s asked tapped agreed total) where
  in_range : (agreed ≡ no_options → ⊥) → AreInRange agreed
  in_range some = let t = x.spelled some in subst AreInRange (sym t.1.1.map) (map_in_range t.1.1.pairs)

  -- a number of an option that was agreed to was asked for
  was_asked : (name : List ℕ) (value : OptionValue) → map.get agreed name ≡ Some value → AsksFor asked name
  was_asked name value is = let m = x.may.asked name value is in (m.0, m.2)

  some_there : (name : List ℕ) (value : OptionValue) → map.get agreed name ≡ Some value → agreed ≡ no_options → ⊥
  some_there name value is none = let both : None ≡ Some value = sym (none_found name) ∙ ap (λ o. map.get o name) (sym none) ∙ is in absurd (cc)

  explained_fits : FitsTotal (block_size agreed) total f
  explained_fits = record { numbered = subst (λ g. total / block_size agreed + 1 ≤ g) (sym are.greatest) x.numbered; reach = reach are.reached; below = λ long is. below long (subst (HaveLength s tapped (λ k. k < f.reach)) is are.below); tail = λ long is. tail long (subst (HaveLength s tapped (λ k. k ≡ f.reach)) is are.tail) } where
    reach : (f.reach ≡ 0) ⊎ IsNumber s tapped f.reach → f.reach ≤ total / block_size agreed + 1
    reach (inl none) = omega (arith, none)
    reach (inr is) = x.numbers f.reach is

    below : (long : ℕ) → HaveLength s tapped (λ k. k < f.reach) (Some long) → long ≡ block_size agreed
    below long (all, (e, k, bytes, said, low)) = elim (x.blocks e k bytes said) [
      | inl whole ↦ sym (all e k bytes said low) ∙ whole.1
      | inr last ↦ let at = last.0 in let up = reach are.reached in absurd (omega (arith, at, up, low))
    ]

    tail : (long : ℕ) → HaveLength s tapped (λ k. k ≡ f.reach) (Some long) → IsBlockLength (block_size agreed) total f.reach long
    tail long (all, (e, k, bytes, said, at)) = subst (λ n. IsBlockLength (block_size agreed) total n long) at (subst (IsBlockLength (block_size agreed) total k) (all e k bytes said at) (x.blocks e k bytes said))

  some_size : 0 < block_size agreed
  some_size = block_size_some s asked tapped agreed total x

  fits_size : FitsSize (block_size agreed) f
  fits_size = total_fits_size (block_size agreed) total f some_size explained_fits

  -- ---- with an OACK

  fits_terms : FitsAgreed asked agreed f
  fits_terms = by (map.get agreed (codes "tsize")) refl asked.mode refl where
    by : (o : Option OptionValue) → map.get agreed (codes "tsize") ≡ o → (mode : Mode) → asked.mode ≡ mode → FitsTerms (block_size agreed) (size_from mode o) f
    by (Some (Num size)) is Octet octet = subst (λ n. FitsTotal (block_size agreed) n f) (x.size octet size is) explained_fits
    by (Some (Num size)) is Netascii mode = fits_size
    by (Some (Text text)) is Octet mode = fits_size
    by (Some (Text text)) is Netascii mode = fits_size
    by None is Octet mode = fits_size
    by None is Netascii mode = fits_size

  -- ---- without one

  -- something else than the size is agreed to where something is, and not the size
  other_agreed : (agreed ≡ no_options → ⊥) → map.get agreed (codes "blksize") ≡ None → AsksFor asked (codes "windowsize") ⊎ (AsksFor asked (codes "timeout") ⊎ AsksFor asked (codes "tsize"))
  other_agreed some size = by (map.get agreed (codes "windowsize")) refl (map.get agreed (codes "timeout")) refl (map.get agreed (codes "tsize")) refl where
    by : (w : Option OptionValue) → map.get agreed (codes "windowsize") ≡ w → (t : Option OptionValue) → map.get agreed (codes "timeout") ≡ t → (z : Option OptionValue) → map.get agreed (codes "tsize") ≡ z
        → AsksFor asked (codes "windowsize") ⊎ (AsksFor asked (codes "timeout") ⊎ AsksFor asked (codes "tsize"))
    by (Some value) is t ist z isz = inl (was_asked (codes "windowsize") value is)
    by None is (Some value) ist z isz = inr (inl (was_asked (codes "timeout") value ist))
    by None is None ist (Some value) isz = inr (inr (was_asked (codes "tsize") value isz))
    by None is None ist None isz = absurd (some (same_map nat_list_cmp_total (slice_cmp-IsAntisymmetric nat_cmp-IsAntisymmetric) agreed no_options (λ name. each name (map.get agreed name) refl ∙ sym (none_found name)))) where
      each : (name : List ℕ) (o : Option OptionValue) → map.get agreed name ≡ o → map.get agreed name ≡ None
      each name None found = found
      each name (Some value) found = named (x.may.asked name value found).4 where
        asked_n : ℕ
        asked_n = (x.may.asked name value found).0

        given_n : ℕ
        given_n = (x.may.asked name value found).1

        named : ((name ≡ codes "blksize") × (given_n ≤ asked_n)) ⊎ (((name ≡ codes "windowsize") × (given_n ≤ asked_n)) ⊎ (((name ≡ codes "timeout") × (given_n ≡ asked_n)) ⊎ ((name ≡ codes "tsize") × (asked.side ≡ Put → given_n ≡ asked_n)))) → map.get agreed name ≡ None
        named (inl same) = ap (map.get agreed) same.0 ∙ size
        named (inr (inl same)) = ap (map.get agreed) same.0 ∙ is
        named (inr (inr (inl same))) = ap (map.get agreed) same.0 ∙ ist
        named (inr (inr (inr same))) = ap (map.get agreed) same.0 ∙ isz

  fits_unseen : FitsUnseen asked f
  fits_unseen = by (map.get agreed (codes "blksize")) refl where
    by : (o : Option OptionValue) → map.get agreed (codes "blksize") ≡ o → FitsUnseen asked f
    by None is = inl (λ get zero. other_agreed (let z = are.zero.0 zero in x.zero get z.0 z.1) is, subst (λ b. FitsSize b f) (ap (number_or 512) is) fits_size)
    by (Some (Text text)) is = let m = x.may.asked (codes "blksize") (Text text) is in let same : Text text ≡ Num m.1 = m.3 in absurd (cc)
    by (Some (Num b)) is =
        let m = x.may.asked (codes "blksize") (Num b) is in
        let given : b ≡ m.1 = (let same : Num b ≡ Num m.1 = m.3 in cc) in
        let same : block_size agreed ≡ b = ap (number_or 512) is in
        let eight = from_eight (map.get agreed (codes "blksize")) (in_range (some_there (codes "blksize") (Num b) is) (codes "blksize")) in
        inr (m.0, m.2, b, omega (arith, eight, same), lowered m.0 m.1 b given m.4, subst (λ n. FitsSize n f) same fits_size)
      where
        lowered : (most given b : ℕ) → b ≡ given → MayAnswer asked.side (codes "blksize") most given → b ≤ most
        lowered most given b is (inl size) = let low = size.1 in omega (arith, is, low)
        lowered most given b is (inr (inl other)) = absurd (window_is_no_size other.0)
        lowered most given b is (inr (inr (inl other))) = absurd (timeout_is_no_size other.0)
        lowered most given b is (inr (inr (inr other))) = absurd (total_is_no_size other.0)

-- What fits nothing nothing explains.
pub unfit_unexplained : (s : TapSides) (asked : RequestParts) (tapped : List TapDatagram) (f : Figures) (offered : Option OptionMap) → AreFigures f s tapped → IsOffered s tapped offered → (FitsSaid asked offered f → ⊥) → NothingExplains s asked tapped
unfit_unexplained s asked tapped f None are offered unfit agreed total x = unfit (fits_unseen s asked tapped f are agreed total x)
unfit_unexplained s asked tapped f (Some options) are (e, said) unfit agreed total x = unfit (subst (λ o. FitsAgreed asked o f) (sym (x.given e options said).0) (fits_terms s asked tapped f are agreed total x))
