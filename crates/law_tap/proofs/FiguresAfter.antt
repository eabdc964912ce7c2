-- The figures after one number more.
use Rattle.std.proofs.Common.{◌≡◌, ◌⊎◌, ◌↔◌, ℕ, ◌+◌, ◌/◌, ◌%◌, ◌<◌, ◌≤◌, ◌==◌, ◌||◌, Bool, true, false, List, [], ◌∷◌, length, Option, Some, None, inl, inr, refl, sym, subst, ap, ◌∙◌, arith, if◌then◌else◌}
use Rattle.std.proofs.lemmas.Bool.{true≢false, cases_lt, cases_Bool, or_parts, eqb-true, eq-eqb}
use Rattle.tftp_packet.specs.{OptionMap, RequestParts, Message, End}
use Rattle.law_end.proofs.Division.Divided.{any_cases, any_first, any_later}
use Rattle.law_end.proofs.Spelled.{spelled_once}
use Rattle.law_tap.specs.TapCapture.{TapDatagram, TapSides}
use Rattle.law_tap.specs.LossyRules.{IsSaidBy, IsSaid, IsNumber, IsBlockLength, Explains, NothingExplains, block_size}
use Rattle.law_tap.specs.SaidFigures.{Figures, AreFigures, HaveLength, join_lengths}

-- ---- lengths of some blocks

abbrev Some_block : TapSides → List TapDatagram → (ℕ → Type 0) → ℕ → Type 0
Some_block s tapped Which long = (e : End) × (k : ℕ) × (bytes : List ℕ) × IsSaid s tapped e (Message.Data k bytes) × Which k × (length bytes ≡ long)

module _ (s : TapSides) (tapped : List TapDatagram) where
  abbrev Said : ℕ → ℕ → Type 0
  Said k long = (e : End) × (bytes : List ℕ) × IsSaid s tapped e (Message.Data k bytes) × (length bytes ≡ long)

  -- numbers that are the same for what was said
  len_same : (Which Other : ℕ → Type 0) → ((e : End) (k : ℕ) (bytes : List ℕ) → IsSaid s tapped e (Message.Data k bytes) → Which k → Other k) → ((e : End) (k : ℕ) (bytes : List ℕ) → IsSaid s tapped e (Message.Data k bytes) → Other k → Which k)
      → (o : Option ℕ) → HaveLength s tapped Which o → HaveLength s tapped Other o
  len_same Which Other to back None none = λ e k bytes said other. none e k bytes said (back e k bytes said other)
  len_same Which Other to back (Some long) (all, (e, k, bytes, said, is)) = (λ f j x other which. all f j x other (back f j x other which), (e, k, bytes, said, to e k bytes said is))

  both_lengths : (One Two Which : ℕ → Type 0) → ((e : End) (k : ℕ) (bytes : List ℕ) → IsSaid s tapped e (Message.Data k bytes) → Which k → One k ⊎ Two k)
      → ((k : ℕ) → One k → Which k) → ((k : ℕ) → Two k → Which k) → (a b r : Option ℕ) → HaveLength s tapped One a → HaveLength s tapped Two b → join_lengths a b ≡ Some r → HaveLength s tapped Which r
  both_lengths One Two Which cut one two None b r none other is =
      let same : b ≡ r = cc in
      subst (HaveLength s tapped Which) same (len_same Two Which (λ e k bytes said t. two k t) (λ e k bytes said w. elim (cut e k bytes said w) [ inl first ↦ absurd (none e k bytes said first) | inr t ↦ t ]) b other)
  both_lengths One Two Which cut one two (Some long) None r some none is =
      let same : Some long ≡ r = cc in
      subst (HaveLength s tapped Which) same (len_same One Which (λ e k bytes said o. one k o) (λ e k bytes said w. elim (cut e k bytes said w) [ inl o ↦ o | inr second ↦ absurd (none e k bytes said second) ]) (Some long) some)
  both_lengths One Two Which cut one two (Some long) (Some other) r some more is = by (long == other) refl is where
    by : (t : Bool) → (long == other) ≡ t → (if t then Some (Some long) else None) ≡ Some r → HaveLength s tapped Which r
    by false off is = absurd (cc)
    by true on is =
        let same : Some long ≡ r = cc in
        let equal : long ≡ other = eqb-true long other on in
        subst (HaveLength s tapped Which) same (
          λ e k bytes said w. elim (cut e k bytes said w) [ inl o ↦ some.0 e k bytes said o | inr t ↦ more.0 e k bytes said t ∙ sym equal ],
          (some.1.0, some.1.1, some.1.2, some.1.3, one some.1.1 some.1.4),
        )

  -- where they do not join there are two lengths
  parted_lengths : (One Two : ℕ → Type 0) (a b : Option ℕ) → HaveLength s tapped One a → HaveLength s tapped Two b → join_lengths a b ≡ None
      → (long other : ℕ) × Some_block s tapped One long × Some_block s tapped Two other × (long ≡ other → ⊥)
  parted_lengths One Two None b none more is = absurd (cc)
  parted_lengths One Two (Some long) None some none is = absurd (cc)
  parted_lengths One Two (Some long) (Some other) some more is = by (long == other) refl is where
    by : (t : Bool) → (long == other) ≡ t → (if t then Some (Some long) else None) ≡ None → (x y : ℕ) × Some_block s tapped One x × Some_block s tapped Two y × (x ≡ y → ⊥)
    by true on is = absurd (cc)
    by false off is = (
      long,
      other,
      (some.1.0, some.1.1, some.1.2, some.1.3, some.1.4, some.0 some.1.0 some.1.1 some.1.2 some.1.3 some.1.4),
      (more.1.0, more.1.1, more.1.2, more.1.3, more.1.4, more.0 more.1.0 more.1.1 more.1.2 more.1.3 more.1.4),
      λ same. true≢false (sym (eq-eqb long other same) ∙ off),
    )

  -- ---- what explains them

  below_whole : (asked : RequestParts) (agreed : OptionMap) (total : ℕ) → Explains s asked tapped agreed total → (k : ℕ) → IsNumber s tapped k → (long : ℕ) → Some_block s tapped (λ j. j < k) long → long ≡ block_size agreed
  below_whole asked agreed total x k is long (e, j, bytes, said, low, length_is) = elim (x.blocks e j bytes said) [
    | inl whole ↦ sym length_is ∙ whole.1
    | inr last ↦ let at = last.0 in let up = x.numbers k is in absurd (omega (arith, at, up, low))
  ]

  one_length : (b total k one two : ℕ) → IsBlockLength b total k one → IsBlockLength b total k two → one ≡ two
  one_length b total k one two (inl a) (inl c) = a.1 ∙ sym c.1
  one_length b total k one two (inr a) (inr c) = a.1 ∙ sym c.1
  one_length b total k one two (inl a) (inr c) = let low = a.0 in let at = c.0 in absurd (omega (arith, low, at))
  one_length b total k one two (inr a) (inl c) = let low = c.0 in let at = a.0 in absurd (omega (arith, low, at))

  two_below : (asked : RequestParts) (k : ℕ) → IsNumber s tapped k → (long other : ℕ) → Some_block s tapped (λ j. j < k) long → Some_block s tapped (λ j. j < k) other → (long ≡ other → ⊥) → NothingExplains s asked tapped
  two_below asked k is long other one two differ agreed total x = differ (below_whole asked agreed total x k is long one ∙ sym (below_whole asked agreed total x k is other two))

  two_at : (asked : RequestParts) (k long other : ℕ) → Some_block s tapped (λ j. j ≡ k) long → Some_block s tapped (λ j. j ≡ k) other → (long ≡ other → ⊥) → NothingExplains s asked tapped
  two_at asked k long other (e, i, bytes, said, at, is) (g, j, more, told, there, are) differ agreed total x =
      differ (sym is ∙ one_length (block_size agreed) total k (length bytes) (length more) (subst (λ n. IsBlockLength (block_size agreed) total n (length bytes)) at (x.blocks e i bytes said)) (subst (λ n. IsBlockLength (block_size agreed) total n (length more)) there (x.blocks g j more told)) ∙ are)

-- ---- one message more

module _ (s : TapSides) (earlier : List TapDatagram) (d : TapDatagram) (e : End) (n : Message) (says : IsSaidBy s e n d) where
  pub said_cases : (g : End) (x : Message) → IsSaid s (d ∷ earlier) g x → (n ≡ x) ⊎ IsSaid s earlier g x
  said_cases g x said = elim (any_cases (IsSaidBy s g x) d earlier said) [ inl now ↦ inl (spelled_once d.payload n x says.spells now.spells) | inr before ↦ inr before ]

  said_now : IsSaid s (d ∷ earlier) e n
  said_now = any_first (IsSaidBy s e n) d earlier says

  pub said_later : (g : End) (x : Message) → IsSaid s earlier g x → IsSaid s (d ∷ earlier) g x
  said_later g x said = any_later (IsSaidBy s g x) d earlier said

  pub number_later : (k : ℕ) → IsNumber s earlier k → IsNumber s (d ∷ earlier) k
  number_later k (g, inl said) = (g, inl (said_later g (Message.Ack k) said))
  number_later k (g, inr (bytes, said)) = (g, inr (bytes, said_later g (Message.Data k bytes) said))

  -- blocks that this one is none of
  pub len_later : (Which : ℕ → Type 0) → ((k : ℕ) (bytes : List ℕ) → n ≡ Message.Data k bytes → Which k → ⊥) → (o : Option ℕ) → HaveLength s earlier Which o → HaveLength s (d ∷ earlier) Which o
  len_later Which other None none = λ g k bytes said which. elim (said_cases g (Message.Data k bytes) said) [ inl now ↦ other k bytes now which | inr before ↦ none g k bytes before which ]
  len_later Which other (Some long) (all, (g, k, bytes, said, is)) = (
    λ f j x told which. elim (said_cases f (Message.Data j x) told) [ inl now ↦ absurd (other j x now which) | inr before ↦ all f j x before which ],
    (g, k, bytes, said_later g (Message.Data k bytes) said, is),
  )

  block_later : (Which : ℕ → Type 0) (long : ℕ) → Some_block s earlier Which long → Some_block s (d ∷ earlier) Which long
  block_later Which long (g, k, bytes, said, is, length_is) = (g, k, bytes, said_later g (Message.Data k bytes) said, is, length_is)

  module _ (f : Figures) (are : AreFigures f s earlier) where
    was_low : (g : End) (k : ℕ) (bytes : List ℕ) → IsSaid s earlier g (Message.Data k bytes) → k ≤ f.reach
    was_low g k bytes said = are.highest k (g, inr (bytes, said))

    -- the blocks below a higher number are those up to the highest one before
    raised : (j : ℕ) → f.reach < j → (r : Option ℕ) → join_lengths f.below f.tail ≡ Some r → HaveLength s earlier (λ k. k < j) r
    raised j up r is = both_lengths s earlier (λ k. k < f.reach) (λ k. k ≡ f.reach) (λ k. k < j)
        (λ g k bytes said low. elim (cases_lt k f.reach) [ inl under ↦ inl under | inr at ↦ let top = was_low g k bytes said in inr (omega (arith, at, top)) ])
        (λ k low. omega (arith, low, up)) (λ k at. omega (arith, at, up)) f.below f.tail r are.below are.tail is

    raised_none : (asked : RequestParts) (j : ℕ) → f.reach < j → IsNumber s (d ∷ earlier) j → join_lengths f.below f.tail ≡ None → NothingExplains s asked (d ∷ earlier)
    raised_none asked j up number is =
        let (long, other, one, two, differ) = parted_lengths s earlier (λ k. k < f.reach) (λ k. k ≡ f.reach) f.below f.tail are.below are.tail is in
        two_below s (d ∷ earlier) asked j number long other (under long one) (at_top other two) differ
      where
        under : (long : ℕ) → Some_block s earlier (λ k. k < f.reach) long → Some_block s (d ∷ earlier) (λ k. k < j) long
        under long (g, k, bytes, said, low, is) = (g, k, bytes, said_later g (Message.Data k bytes) said, omega (arith, low, up), is)

        at_top : (long : ℕ) → Some_block s earlier (λ k. k ≡ f.reach) long → Some_block s (d ∷ earlier) (λ k. k < j) long
        at_top long (g, k, bytes, said, at, is) = (g, k, bytes, said_later g (Message.Data k bytes) said, omega (arith, at, up), is)

    none_at : (j : ℕ) → f.reach < j → HaveLength s earlier (λ k. k ≡ j) None
    none_at j up g k bytes said at = let top = was_low g k bytes said in omega (arith, at, top, up)

-- ---- an ACK

module _ (s : TapSides) (earlier : List TapDatagram) (d : TapDatagram) (e : End) (j : ℕ) (says : IsSaidBy s e (Message.Ack j) d) (f : Figures) (are : AreFigures f s earlier) where
  no_block : (Which : ℕ → Type 0) (k : ℕ) (bytes : List ℕ) → Message.Ack j ≡ Message.Data k bytes → Which k → ⊥
  no_block Which k bytes is which = absurd (cc)

  ack_numbers : (top : ℕ) → f.reach ≤ top → j ≤ top → (k : ℕ) → IsNumber s (d ∷ earlier) k → k ≤ top
  ack_numbers top old new k (g, inl said) = elim (said_cases s earlier d e (Message.Ack j) says g (Message.Ack k) said) [
    | inl now ↦ let same : j ≡ k = cc in omega (arith, same, new)
    | inr before ↦ let low = are.highest k (g, inl before) in omega (arith, low, old)
  ]
  ack_numbers top old new k (g, inr (bytes, said)) = elim (said_cases s earlier d e (Message.Ack j) says g (Message.Data k bytes) said) [
    | inl now ↦ absurd (cc)
    | inr before ↦ let low = are.highest k (g, inr (bytes, before)) in omega (arith, low, old)
  ]

  zero_after : (b : Bool) → ((b ≡ true) ↔ ((j ≡ 0) ⊎ (f.zero ≡ true))) → (b ≡ true) ↔ ((g : End) × IsSaid s (d ∷ earlier) g (Message.Ack 0))
  zero_after b is = (
    λ on. elim (is.0 on) [
      | inl now ↦ (e, subst (λ i. IsSaid s (d ∷ earlier) e (Message.Ack i)) now (said_now s earlier d e (Message.Ack j) says))
      | inr was ↦ let (g, said) = are.zero.0 was in (g, said_later s earlier d e (Message.Ack j) says g (Message.Ack 0) said)
    ],
    λ (g, said). is.1 (elim (said_cases s earlier d e (Message.Ack j) says g (Message.Ack 0) said) [ inl now ↦ let same : j ≡ 0 = cc in inl same | inr before ↦ inr (are.zero.1 (g, before)) ]),
  )

  pub low_ack : (b : Bool) → j ≤ f.reach → ((b ≡ true) ↔ ((j ≡ 0) ⊎ (f.zero ≡ true))) → AreFigures (record { greatest = f.greatest; reach = f.reach; zero = b; below = f.below; tail = f.tail }) s (d ∷ earlier)
  low_ack b low is = record {
    greatest = are.greatest;
    highest = ack_numbers f.reach (omega arith) low;
    reached = elim are.reached [ inl none ↦ inl none | inr number ↦ inr (number_later s earlier d e (Message.Ack j) says f.reach number) ];
    zero = zero_after b is;
    below = len_later s earlier d e (Message.Ack j) says (λ k. k < f.reach) (no_block (λ k. k < f.reach)) f.below are.below;
    tail = len_later s earlier d e (Message.Ack j) says (λ k. k ≡ f.reach) (no_block (λ k. k ≡ f.reach)) f.tail are.tail;
  }

  pub high_ack : (r : Option ℕ) → f.reach < j → join_lengths f.below f.tail ≡ Some r → AreFigures (record { greatest = f.greatest; reach = j; zero = f.zero; below = r; tail = None }) s (d ∷ earlier)
  high_ack r up is = record {
    greatest = are.greatest;
    highest = ack_numbers j (omega (arith, up)) (omega arith);
    reached = inr (e, inl (said_now s earlier d e (Message.Ack j) says));
    zero = zero_after f.zero (λ on. inr on, λ either. elim either [ inl none ↦ absurd (omega (arith, none, up)) | inr on ↦ on ]);
    below = len_later s earlier d e (Message.Ack j) says (λ k. k < j) (no_block (λ k. k < j)) r (raised s earlier d e (Message.Ack j) says f are j up r is);
    tail = len_later s earlier d e (Message.Ack j) says (λ k. k ≡ j) (no_block (λ k. k ≡ j)) None (none_at s earlier d e (Message.Ack j) says f are j up);
  }

  pub no_ack : (asked : RequestParts) → f.reach < j → join_lengths f.below f.tail ≡ None → NothingExplains s asked (d ∷ earlier)
  no_ack asked up is = raised_none s earlier d e (Message.Ack j) says f are asked j up (e, inl (said_now s earlier d e (Message.Ack j) says)) is

-- whether an ACK 0 was said, after one more
pub zero_then : (j : ℕ) (z b : Bool) → z ≡ true → b ≡ true → (b ≡ true) ↔ ((j ≡ 0) ⊎ (z ≡ true))
zero_then j z b was is = (λ _. inr was, λ _. is)

pub zero_else : (j : ℕ) (z b : Bool) → z ≡ false → b ≡ (j == 0) → (b ≡ true) ↔ ((j ≡ 0) ⊎ (z ≡ true))
zero_else j z b off is = (λ on. inl (eqb-true j 0 (sym is ∙ on)), λ either. elim either [ inl none ↦ is ∙ eq-eqb j 0 none | inr on ↦ absurd (true≢false (sym on ∙ off)) ])

-- ---- a block

module _ (s : TapSides) (earlier : List TapDatagram) (d : TapDatagram) (e : End) (j : ℕ) (bytes : List ℕ) (says : IsSaidBy s e (Message.Data j bytes) d) (f : Figures) (are : AreFigures f s earlier) (long : ℕ) (long_is : length bytes ≡ long) where
  now_block : IsSaid s (d ∷ earlier) e (Message.Data j bytes)
  now_block = said_now s earlier d e (Message.Data j bytes) says

  cases_block : (g : End) (k : ℕ) (x : List ℕ) → IsSaid s (d ∷ earlier) g (Message.Data k x) → ((j ≡ k) × (length x ≡ long)) ⊎ IsSaid s earlier g (Message.Data k x)
  cases_block g k x said = elim (said_cases s earlier d e (Message.Data j bytes) says g (Message.Data k x) said) [
    | inr before ↦ inr before
    | inl now ↦ let number : j ≡ k = cc in let these : bytes ≡ x = cc in inl (number, ap length (sym these) ∙ long_is)
  ]

  block_numbers : (top : ℕ) → f.reach ≤ top → j ≤ top → (k : ℕ) → IsNumber s (d ∷ earlier) k → k ≤ top
  block_numbers top old new k (g, inl said) = elim (said_cases s earlier d e (Message.Data j bytes) says g (Message.Ack k) said) [
    | inl now ↦ absurd (cc)
    | inr before ↦ let low = are.highest k (g, inl before) in omega (arith, low, old)
  ]
  block_numbers top old new k (g, inr (x, said)) = elim (cases_block g k x said) [
    | inl now ↦ let same = now.0 in omega (arith, same, new)
    | inr before ↦ let low = are.highest k (g, inr (x, before)) in omega (arith, low, old)
  ]

  zero_same : (f.zero ≡ true) ↔ ((g : End) × IsSaid s (d ∷ earlier) g (Message.Ack 0))
  zero_same = (
    λ on. let (g, said) = are.zero.0 on in (g, said_later s earlier d e (Message.Data j bytes) says g (Message.Ack 0) said),
    λ (g, said). elim (said_cases s earlier d e (Message.Data j bytes) says g (Message.Ack 0) said) [ inl now ↦ absurd (cc) | inr before ↦ are.zero.1 (g, before) ],
  )

  -- the blocks with such numbers, and this one
  more_length : (Which : ℕ → Type 0) → Which j → (o r : Option ℕ) → HaveLength s earlier Which o → join_lengths o (Some long) ≡ Some r → HaveLength s (d ∷ earlier) Which r
  more_length Which is None r none joins =
      let same : Some long ≡ r = cc in
      subst (HaveLength s (d ∷ earlier) Which) same (λ g k x said which. elim (cases_block g k x said) [ inl now ↦ now.1 | inr before ↦ absurd (none g k x before which) ], (e, j, bytes, now_block, is))
  more_length Which is (Some other) r (all, (g, i, y, told, which)) joins = by (other == long) refl joins where
    by : (t : Bool) → (other == long) ≡ t → (if t then Some (Some other) else None) ≡ Some r → HaveLength s (d ∷ earlier) Which r
    by false off joins = absurd (cc)
    by true on joins =
        let same : Some other ≡ r = cc in
        let equal : other ≡ long = eqb-true other long on in
        subst (HaveLength s (d ∷ earlier) Which) same (
          λ h k x said at. elim (cases_block h k x said) [ inl now ↦ now.1 ∙ sym equal | inr before ↦ all h k x before at ],
          (g, i, y, said_later s earlier d e (Message.Data j bytes) says g (Message.Data i y) told, which),
        )

  more_none : (Which : ℕ → Type 0) → Which j → (o : Option ℕ) → HaveLength s earlier Which o → join_lengths o (Some long) ≡ None → (other : ℕ) × Some_block s (d ∷ earlier) Which other × Some_block s (d ∷ earlier) Which long × (other ≡ long → ⊥)
  more_none Which is None none joins = absurd (cc)
  more_none Which is (Some other) (all, (g, i, y, told, which)) joins = by (other == long) refl joins where
    by : (t : Bool) → (other == long) ≡ t → (if t then Some (Some other) else None) ≡ None → (x : ℕ) × Some_block s (d ∷ earlier) Which x × Some_block s (d ∷ earlier) Which long × (x ≡ long → ⊥)
    by true on joins = absurd (cc)
    by false off joins = (
      other,
      (g, i, y, said_later s earlier d e (Message.Data j bytes) says g (Message.Data i y) told, which, all g i y told which),
      (e, j, bytes, now_block, is, long_is),
      λ same. true≢false (sym (eq-eqb other long same) ∙ off),
    )

  still_reached : (f.reach ≡ 0) ⊎ IsNumber s (d ∷ earlier) f.reach
  still_reached = elim are.reached [ inl none ↦ inl none | inr number ↦ inr (number_later s earlier d e (Message.Data j bytes) says f.reach number) ]

  none_of_these : (Which : ℕ → Type 0) → (Which j → ⊥) → (k : ℕ) (x : List ℕ) → Message.Data j bytes ≡ Message.Data k x → Which k → ⊥
  none_of_these Which other k x is which = let number : j ≡ k = cc in other (subst Which (sym number) which)

  pub low_block : (r : Option ℕ) → j < f.reach → join_lengths f.below (Some long) ≡ Some r → AreFigures (record { greatest = f.greatest; reach = f.reach; zero = f.zero; below = r; tail = f.tail }) s (d ∷ earlier)
  low_block r low joins = record {
    greatest = are.greatest;
    highest = block_numbers f.reach (omega arith) (omega (arith, low));
    reached = still_reached;
    zero = zero_same;
    below = more_length (λ k. k < f.reach) low f.below r are.below joins;
    tail = len_later s earlier d e (Message.Data j bytes) says (λ k. k ≡ f.reach) (none_of_these (λ k. k ≡ f.reach) (λ at. omega (arith, at, low))) f.tail are.tail;
  }

  pub no_low_block : (asked : RequestParts) → j < f.reach → join_lengths f.below (Some long) ≡ None → NothingExplains s asked (d ∷ earlier)
  no_low_block asked low joins =
      let (other, one, two, differ) = more_none (λ k. k < f.reach) low f.below are.below joins in
      elim still_reached [ inl none ↦ absurd (omega (arith, none, low)) | inr number ↦ two_below s (d ∷ earlier) asked f.reach number other long one two differ ]

  pub level_block : (r : Option ℕ) → j ≡ f.reach → join_lengths f.tail (Some long) ≡ Some r → AreFigures (record { greatest = f.greatest; reach = f.reach; zero = f.zero; below = f.below; tail = r }) s (d ∷ earlier)
  level_block r at joins = record {
    greatest = are.greatest;
    highest = block_numbers f.reach (omega arith) (omega (arith, at));
    reached = still_reached;
    zero = zero_same;
    below = len_later s earlier d e (Message.Data j bytes) says (λ k. k < f.reach) (none_of_these (λ k. k < f.reach) (λ low. omega (arith, at, low))) f.below are.below;
    tail = more_length (λ k. k ≡ f.reach) at f.tail r are.tail joins;
  }

  pub no_level_block : (asked : RequestParts) → j ≡ f.reach → join_lengths f.tail (Some long) ≡ None → NothingExplains s asked (d ∷ earlier)
  no_level_block asked at joins = let (other, one, two, differ) = more_none (λ k. k ≡ f.reach) at f.tail are.tail joins in two_at s (d ∷ earlier) asked f.reach other long one two differ

  pub high_block : (r : Option ℕ) → f.reach < j → join_lengths f.below f.tail ≡ Some r → AreFigures (record { greatest = f.greatest; reach = j; zero = f.zero; below = r; tail = Some long }) s (d ∷ earlier)
  high_block r up joins = record {
    greatest = are.greatest;
    highest = block_numbers j (omega (arith, up)) (omega arith);
    reached = inr (e, inr (bytes, now_block));
    zero = zero_same;
    below = len_later s earlier d e (Message.Data j bytes) says (λ k. k < j) (none_of_these (λ k. k < j) (λ low. omega (arith, low))) r (raised s earlier d e (Message.Data j bytes) says f are j up r joins);
    tail = more_length (λ k. k ≡ j) refl None (Some long) (none_at s earlier d e (Message.Data j bytes) says f are j up) refl;
  }

  pub no_high_block : (asked : RequestParts) → f.reach < j → join_lengths f.below f.tail ≡ None → NothingExplains s asked (d ∷ earlier)
  no_high_block asked up joins = raised_none s earlier d e (Message.Data j bytes) says f are asked j up (e, inr (bytes, now_block)) joins
