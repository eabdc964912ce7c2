-- A fragment of which and those before no packet is put together, and one that comes to them.
use Rattle.std.proofs.Common.{◌≡◌, ◌⊎◌, ◌↔◌, ◌≤◌, ℕ, true, false, inl, inr, List, [], ◌∷◌, ◌++◌, length, map, reverse, sym, ap, ◌∙◌, subst, arith}
use Rattle.std.proofs.lemmas.List.{reverse-append}
use Rattle.net_udp.specs.declared.fragments.extent.Extent.{Extent}
use Rattle.net_udp.specs.Fragments.Whole.{Content, Part}
use Rattle.net_udp.specs.Fragments.{Among, Held, StandsFor, nothing_held, Arrival, AreNone, IsSetOf, MayJoin, OneOf, Overlap, OverlapsOne, PutTogether, SetState, Spoils, extent_of, parts_of, room_of}
use Rattle.net_udp.proofs.FragmentsLemmas.Holding.{agreed, not_both}

-- with a part more there is none still
pub none_more : (p : Part) (parts : List Part) → AreNone parts → AreNone (p ∷ parts)
none_more p parts (inl apart) = inl (λ whole h. apart whole h.1)
none_more p parts (inr two) = inr (inr two)

-- and none is put together
pub none_made : (parts : List Part) (whole : Content) → AreNone parts → PutTogether parts whole → ⊥
none_made parts whole (inl apart) made = apart whole made.0.each
none_made parts whole (inr two) made = made.1 two

pub still_none : (s : SetState) (arrivals : List Arrival) (a : Arrival) → s.spoiled ≡ true → IsSetOf s arrivals → AreNone (parts_of (a ∷ arrivals)) × IsSetOf s (a ∷ arrivals)
still_none s arrivals a e is =
    let none : AreNone (parts_of (a ∷ arrivals)) = none_more a.part (parts_of arrivals) (is.apart e).1 in (
      none,
      record {
        held = λ f. absurd (not_both s.spoiled e f);
        frames = λ f. absurd (not_both s.spoiled e f);
        extents = λ f. absurd (not_both s.spoiled e f);
        distinct = λ f. absurd (not_both s.spoiled e f);
        apart = λ f. ((is.apart e).0, none);
        nothing = λ f. is.nothing e;
      },
    )

pub spoils_not : (s : SetState) (p : Part) → Spoils s p → MayJoin s p → ⊥
spoils_not s p (inl not_agreed) join = not_agreed join.agrees
spoils_not s p (inr overlaps) join = join.distinct overlaps.0 overlaps.1

spoils_all : (old : SetState) (arrivals : List Arrival) (p : Part) → 1 ≤ length p.content → old.spoiled ≡ false → IsSetOf old arrivals → Spoils old p → AreNone (p ∷ parts_of arrivals)
spoils_all old arrivals p some sound is (inl not_agreed) = inl (λ whole h. not_agreed (agreed old.held (parts_of arrivals) p whole some (is.held sound) h.1 h.0))
spoils_all old arrivals p some sound is (inr overlaps) = inr (inl (overlaps.0, (is.extents sound (extent_of p)).0 overlaps.1))

pub now_none : (old new : SetState) (arrivals : List Arrival) (a : Arrival) (p : Part) → a.part ≡ p → 1 ≤ length p.content → old.spoiled ≡ false → Spoils old p → new.spoiled ≡ true → new.frames ≡ [] → new.held ≡ nothing_held
    → IsSetOf old arrivals → AreNone (parts_of (a ∷ arrivals)) × IsSetOf new (a ∷ arrivals)
now_none old new arrivals a p same some sound spoils spoiled no_frames empty is =
    let none : AreNone (parts_of (a ∷ arrivals)) = subst (λ (q : Part). AreNone (q ∷ parts_of arrivals)) (sym same) (spoils_all old arrivals p some sound is spoils) in (
      none,
      record {
        held = λ f. absurd (not_both new.spoiled spoiled f);
        frames = λ f. absurd (not_both new.spoiled spoiled f);
        extents = λ f. absurd (not_both new.spoiled spoiled f);
        distinct = λ f. absurd (not_both new.spoiled spoiled f);
        apart = λ f. (no_frames, none);
        nothing = λ f. empty;
      },
    )

pub small_room : (new old : SetState) → new.held ≡ nothing_held → new.frames ≡ [] → room_of new ≤ room_of old
small_room new old e f = omega (arith, ap (λ (h : Held). length h.cells) e, ap length f)

-- ---- a part more

one_out : (P : Extent → Type 0) (es : List Extent) (e : Extent) → OneOf P (es ++ e ∷ []) → P e ⊎ OneOf P es
one_out P [] e (inl p) = inl p
one_out P [] e (inr none) = absurd none
one_out P (x ∷ es) e (inl p) = inr (inl p)
one_out P (x ∷ es) e (inr one) = elim (one_out P es e one) [ inl p ↦ inl p | inr there ↦ inr (inr there) ]

one_in : (P : Extent → Type 0) (es : List Extent) (e : Extent) → P e ⊎ OneOf P es → OneOf P (es ++ e ∷ [])
one_in P [] e (inl p) = inl p
one_in P [] e (inr none) = absurd none
one_in P (x ∷ es) e (inl p) = inr (one_in P es e (inl p))
one_in P (x ∷ es) e (inr (inl p)) = inl p
one_in P (x ∷ es) e (inr (inr one)) = inr (one_in P es e (inr one))

-- an extent that is there is noted
one_same : (P : Extent → Type 0) (es : List Extent) (x : Extent) → OneOf (λ e. e ≡ x) es → P x → OneOf P es
one_same P [] x none p = absurd none
one_same P (e ∷ es) x (inl same) p = inl (subst P (sym same) p)
one_same P (e ∷ es) x (inr there) p = inr (one_same P es x there p)

-- with one more extent, which is there already or comes behind the others
abbrev pub Noted : List Extent → Extent → List Extent → Type 0
Noted old x new = (new ≡ old ++ x ∷ []) ⊎ ((new ≡ old) × OneOf (λ e. e ≡ x) old)

noted_out : (P : Extent → Type 0) (old new : List Extent) (x : Extent) → Noted old x new → OneOf P new → P x ⊎ OneOf P old
noted_out P old new x (inl more) one = one_out P old x (subst (OneOf P) more one)
noted_out P old new x (inr same) one = inr (subst (OneOf P) same.0 one)

noted_in : (P : Extent → Type 0) (old new : List Extent) (x : Extent) → Noted old x new → P x ⊎ OneOf P old → OneOf P new
noted_in P old new x (inl more) one = subst (OneOf P) (sym more) (one_in P old x one)
noted_in P old new x (inr same) (inl p) = subst (OneOf P) (sym same.0) (one_same P old x same.1 p)
noted_in P old new x (inr same) (inr one) = subst (OneOf P) (sym same.0) one

module _ (old new : SetState) (arrivals : List Arrival) (p : Part) (is : IsSetOf old arrivals) (sound : old.spoiled ≡ false) where
  -- the extents tell of the part too
  tells : Noted old.extents (extent_of p) new.extents → (e : Extent) → OneOf (Overlap e) new.extents → Overlap e (extent_of p) ⊎ Among (λ q. Overlap e (extent_of q)) (parts_of arrivals)
  tells more e one = elim (noted_out (Overlap e) old.extents new.extents (extent_of p) more one) [ inl here ↦ inl here | inr before ↦ inr ((is.extents sound e).0 before) ]

  told : Noted old.extents (extent_of p) new.extents → (e : Extent) → Overlap e (extent_of p) ⊎ Among (λ q. Overlap e (extent_of q)) (parts_of arrivals) → OneOf (Overlap e) new.extents
  told more e (inl here) = noted_in (Overlap e) old.extents new.extents (extent_of p) more (inl here)
  told more e (inr before) = noted_in (Overlap e) old.extents new.extents (extent_of p) more (inr ((is.extents sound e).1 before))

  -- the set is that of the fragments and this one, whose part it is
  pub joined_with : (frame : ℕ) → MayJoin old p → new.spoiled ≡ false → (StandsFor old.held (parts_of arrivals) → StandsFor new.held (p ∷ parts_of arrivals)) → new.frames ≡ old.frames ++ frame ∷ []
      → Noted old.extents (extent_of p) new.extents → (a : Arrival) → p ≡ a.part → frame ≡ a.frame → IsSetOf new (a ∷ arrivals)
  joined_with frame join kept stands told_frames more a same_part same_frame = record {
    held = λ e. subst (λ (q : Part). StandsFor new.held (q ∷ parts_of arrivals)) same_part (stands (is.held sound));
    frames = λ e. told_frames ∙ ap (λ (l : List ℕ). l ++ frame ∷ []) (is.frames sound) ∙ ap (λ (n : ℕ). reverse (map (λ (x : Arrival). x.frame) arrivals) ++ n ∷ []) same_frame
        ∙ sym (reverse-append (a.frame ∷ []) (map (λ (x : Arrival). x.frame) arrivals));
    extents = λ e x. subst (λ (q : Part). OneOf (Overlap x) new.extents ↔ Among (λ r. Overlap x (extent_of r)) (q ∷ parts_of arrivals)) same_part (tells more x, told more x);
    distinct = λ e two. elim two [
      | inl one ↦
          let here = subst (λ (q : Part). OverlapsOne q (parts_of arrivals)) (sym same_part) one in
          join.distinct here.0 ((is.extents sound (extent_of p)).1 here.1)
      | inr before ↦ is.distinct sound before
    ];
    apart = λ e. absurd (not_both new.spoiled e kept);
    nothing = λ e. absurd (not_both new.spoiled e kept);
  }
