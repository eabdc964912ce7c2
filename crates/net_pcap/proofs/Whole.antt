-- Whole blocks, from the bytes at their places.
use Rattle.std.proofs.Common.{◌≡◌, ◌≢◌, ℕ, ◌+◌, ◌-◌, ◌%◌, ◌≤◌, List, [], ◌∷◌, ◌++◌, length, length-append, take, drop, get_or, refl, sym, ap, ◌∙◌, subst, append_assoc, append-nil, lit≤, arith}
use Rattle.std.specs.List.{slice_range}
use Rattle.std.proofs.lemmas.List.Folds.{drop_split}
use Rattle.std.proofs.lemmas.List.{length-take-le, length-drop, drop-take}
use Rattle.std.proofs.lemmas.Grind.{common_steps}
use Rattle.net_pcap.specs.{four, two, number_at, short_at, Spells, FrameParts, frame_at, SpellsBlock, SpellsSection, section_type, order_magic, longest_block, Said, BodySays, BlockSays, NamedInterface, Big, Little, Order, Place}
use lib.Seq.{take-add}
use Rattle.net_pcap.proofs.Cuts.{drop_twice, three_parts, length-slice_range, cut_one}
use Rattle.net_pcap.proofs.Fours.{spells_one, spells_length}
use Rattle.net_pcap.proofs.Announced.{order_one}

take_take : (a b : ℕ) (xs : List ℕ) → a ≤ b → take a (take b xs) ≡ take a xs
take_take a b xs h = grind (arith, common_steps)

-- a part of a part
pub slice_range-slice_range : (s e m : ℕ) (xs : List ℕ) → s ≤ e → 8 + e ≤ m → m ≤ length xs → slice_range xs (8 + s) (8 + e) ≡ slice_range (slice_range xs 8 m) s e
slice_range-slice_range s e m xs order within all =
    let inner : drop s (take (m - 8) (drop 8 xs)) ≡ take (m - 8 - s) (drop s (drop 8 xs)) =
    ap (λ n. drop s (take n (drop 8 xs))) (let e : m - 8 ≡ s + (m - 8 - s) = omega arith in e) ∙ drop-take s (m - 8 - s) (drop 8 xs) in
    sym (ap (take (e - s)) inner ∙ take_take (e - s) (m - 8 - s) (drop s (drop 8 xs)) (omega arith) ∙ (λ i. take (let f : e - s ≡ 8 + e - (8 + s) = omega arith in f i) (drop_twice s 8 xs i)))

get_after : (k i : ℕ) (xs : List ℕ) → get_or (drop k xs) i 0 ≡ get_or xs (k + i) 0
get_after k i xs = grind (arith, common_steps)

four_of : (order : Order) (s : List ℕ) → length s ≡ 4 → Spells order s (number_at order s 0 ∷ [])
four_of order (a ∷ b ∷ c ∷ d ∷ []) sized = (a, b, c, d, [], refl, refl, refl)
four_of order _ sized = absurd (omega arith)

-- the number of four bytes, where those before them are left out
pub number_dropped : (order : Order) (s : List ℕ) (k : ℕ) → number_at order (drop k s) 0 ≡ number_at order s k
number_dropped order s k = λ i. four order (zeroth i) (get_after k 1 s i) (get_after k 2 s i) (get_after k 3 s i)
  where
    zeroth : get_or (drop k s) 0 0 ≡ get_or s k 0
    zeroth = get_after k 0 s ∙ ap (λ n. get_or s n 0) (let e : k + 0 ≡ k = omega arith in e)

-- the number of the four bytes that end a list
pub four_last : (order : Order) (s : List ℕ) (k : ℕ) → length s ≡ k + 4 → Spells order (drop k s) (number_at order s k ∷ [])
four_last order s k sized = subst (λ (n : ℕ). Spells order (drop k s) (n ∷ [])) (number_dropped order s k) (four_of order (drop k s) (omega (arith, length-drop k s)))

-- ---- the parts of a block

four_second : (order : Order) (s : List ℕ) → 8 ≤ length s → Spells order (slice_range s 4 8) (number_at order s 4 ∷ [])
four_second order (b0 ∷ b1 ∷ b2 ∷ b3 ∷ b4 ∷ b5 ∷ b6 ∷ b7 ∷ u) enough = (b4, b5, b6, b7, [], refl, refl, refl)
four_second order _ enough = absurd (omega arith)

four_first : (order : Order) (s : List ℕ) → 4 ≤ length s → Spells order (take 4 s) (number_at order s 0 ∷ [])
four_first order (b0 ∷ b1 ∷ b2 ∷ b3 ∷ u) enough = (b0, b1, b2, b3, [], refl, refl, refl)
four_first order _ enough = absurd (omega arith)

abbrev pub body_of : List ℕ → List ℕ
body_of s = slice_range s 8 (length s - 4)

four_parts : (s : List ℕ) → 12 ≤ length s → s ≡ take 4 s ++ (slice_range s 4 8 ++ (body_of s ++ drop (length s - 4) s))
four_parts s enough = three_parts 4 8 s (lit≤ tt) ∙ ap (λ l. take 4 s ++ (slice_range s 4 8 ++ l)) (drop_split s 8 (length s - 4) (omega arith))

pub block_spelled : (order : Order) (s : List ℕ) → 12 ≤ length s → length s ≡ number_at order s 4 → length s ≡ number_at order s (length s - 4) → length s % 4 ≡ 0 → length s ≤ longest_block
    → SpellsBlock order s (take 4 s) (body_of s)
block_spelled order s enough sized again words few =
    record {
      size = slice_range s 4 8;
      again = drop (length s - 4) s;
      are = four_parts s enough;
      typed = length-take-le 4 s (omega arith);
      size_is = subst (λ (n : ℕ). Spells order (slice_range s 4 8) (n ∷ [])) (sym sized) (four_second order s (omega arith));
      again_is = subst (λ (n : ℕ). Spells order (drop (length s - 4) s) (n ∷ [])) (sym again) (four_last order s (length s - 4) (omega arith));
      words = words;
      few = few;
    }

block_length : (order : Order) (s type body : List ℕ) → (b : SpellsBlock order s type body) → length s ≡ 12 + length body
block_length order s type body b =
    omega (
      arith,
      ap length b.are,
      length-append type (b.size ++ (body ++ b.again)),
      length-append b.size (body ++ b.again),
      length-append body b.again,
      b.typed,
      spells_length order b.size (length s ∷ []) b.size_is,
      spells_length order b.again (length s ∷ []) b.again_is,
    )

number_same : (order : Order) (s t : List ℕ) (m n : ℕ) → Spells order s (m ∷ []) → Spells order t (n ∷ []) → s ≡ t → m ≡ n
number_same order s t m n p q e = ap (λ (l : List ℕ). get_or l 0 0) (spells_one order s t [] [] (m ∷ []) (n ∷ []) p q refl (ap (λ l. l ++ []) e)).0

-- a block's type, its body and its lengths, by their places
pub block_known : (order : Order) (s type body : List ℕ) → SpellsBlock order s type body → (type ≡ take 4 s) × (body ≡ body_of s) × (length s ≡ number_at order s 4) × (length s ≡ number_at order s (length s - 4)) × (12 ≤ length s)
block_known order s type body b =
    let long = block_length order s type body b in
    let enough : 12 ≤ length s = omega (arith, long) in
    let one = cut_one type (take 4 s) _ _ (b.typed ∙ sym (length-take-le 4 s (omega arith))) (sym b.are ∙ four_parts s enough) in
    let two = cut_one b.size (slice_range s 4 8) _ _ (spells_length order b.size (length s ∷ []) b.size_is ∙ sym (length-slice_range 4 8 s (omega arith))) one.1 in
    let three = cut_one body (body_of s) b.again _ (omega (arith, long, length-slice_range 8 (length s - 4) s (omega arith))) two.1 in (
      one.0,
      three.0,
      number_same order b.size (slice_range s 4 8) _ _ b.size_is (four_second order s (omega arith)) two.0,
      number_same order b.again (drop (length s - 4) s) _ _ b.again_is (four_last order s (length s - 4) (omega arith)) three.1,
      enough,
    )

-- ---- section headers

-- its bytes: the type, the length, the order, the version, and what follows
pub section_path : (s : List ℕ) (order : Order) → SpellsSection s order
    → (p q r t a b : ℕ) × (tail : List ℕ) × (s ≡ section_type ++ (p ∷ q ∷ r ∷ t ∷ (order_magic order ++ (a ∷ b ∷ tail)))) × (length s ≡ four order p q r t) × (two order a b ≡ 1) × (14 ≤ length tail)
section_path s order x =
    let (p, q, r, t, none, size, is, end) = x.block.size_is in
    let tail = x.rest ++ x.block.again in
    let whole : s ≡ section_type ++ (p ∷ q ∷ r ∷ t ∷ (order_magic order ++ (x.a ∷ x.b ∷ tail))) =
    x.block.are ∙ ap (λ l. section_type ++ (l ++ (x.body ++ x.block.again))) (size ∙ ap (λ l. p ∷ q ∷ r ∷ t ∷ l) end)
    ∙ ap (λ l. section_type ++ (p ∷ q ∷ r ∷ t ∷ l)) (ap (λ l. l ++ x.block.again) x.are ∙ append_assoc (order_magic order) (x.a ∷ x.b ∷ x.rest) x.block.again) in
    (p, q, r, t, x.a, x.b, tail, whole, is, x.version, omega (arith, x.enough, length-append x.rest x.block.again, spells_length order x.block.again (length s ∷ []) x.block.again_is))

-- the version stands after the order
version_parts : (k : ℕ) (l : List ℕ) → l ≡ l → take (4 + (2 + k)) l ≡ take 4 l ++ (take 2 (drop 4 l) ++ take k (drop 2 (drop 4 l)))
version_parts k l e = take-add 4 (2 + k) l ∙ ap (λ x. take 4 l ++ x) (take-add 2 k (drop 4 l))

pub section_spelled : (order : Order) (s : List ℕ) → 28 ≤ length s → take 4 s ≡ section_type → slice_range s 8 12 ≡ order_magic order → length s ≡ number_at order s 4 → length s ≡ number_at order s (length s - 4)
    → short_at order s 12 ≡ 1 → length s % 4 ≡ 0 → length s ≤ longest_block → SpellsSection s order
section_spelled order (b0 ∷ b1 ∷ b2 ∷ b3 ∷ b4 ∷ b5 ∷ b6 ∷ b7 ∷ b8 ∷ b9 ∷ b10 ∷ b11 ∷ b12 ∷ b13 ∷ u) enough typed is sized again version words few =
    let s = b0 ∷ b1 ∷ b2 ∷ b3 ∷ b4 ∷ b5 ∷ b6 ∷ b7 ∷ b8 ∷ b9 ∷ b10 ∷ b11 ∷ b12 ∷ b13 ∷ u in
    let l = b8 ∷ b9 ∷ b10 ∷ b11 ∷ b12 ∷ b13 ∷ u in
    let long : length s - 4 - 8 ≡ 4 + (2 + (length s - 18)) = omega arith in
    let parts : body_of s ≡ order_magic order ++ (b12 ∷ b13 ∷ take (length s - 18) u) = ap (λ n. take n l) long ∙ version_parts (length s - 18) l refl ∙ ap (λ x. x ++ (b12 ∷ b13 ∷ take (length s - 18) u)) is in
    record {
      a = b12;
      b = b13;
      body = body_of s;
      rest = take (length s - 18) u;
      block = subst (λ (t : List ℕ). SpellsBlock order s t (body_of s)) typed (block_spelled order s (omega arith) sized again words few);
      are = parts;
      version = version;
      enough = omega (arith, length-take-le (length s - 18) u (omega arith));
    }
section_spelled order _ enough typed is sized again version words few = absurd (omega arith)

-- what a section header shows at its places, and in front of other bytes
pub section_known : (s more : List ℕ) (order : Order) → SpellsSection s order
    → (take 4 (s ++ more) ≡ section_type) × (slice_range (s ++ more) 8 12 ≡ order_magic order) × (length s ≡ number_at order (s ++ more) 4) × (short_at order (s ++ more) 12 ≡ 1) × (28 ≤ length s)
section_known s more order x =
    let (p, q, r, t, a, b, tail, path, sized, version, long) = section_path s order x in
    known order p q r t a b tail path sized version long
  where
    known : (own : Order) (p q r t a b : ℕ) (tail : List ℕ) → s ≡ section_type ++ (p ∷ q ∷ r ∷ t ∷ (order_magic own ++ (a ∷ b ∷ tail))) → length s ≡ four own p q r t → two own a b ≡ 1 → 14 ≤ length tail
        → (take 4 (s ++ more) ≡ section_type) × (slice_range (s ++ more) 8 12 ≡ order_magic own) × (length s ≡ number_at own (s ++ more) 4) × (short_at own (s ++ more) 12 ≡ 1) × (28 ≤ length s)
    known Big p q r t a b tail path sized version long =
        let whole = ap (λ l. l ++ more) path in
        (ap (take 4) whole, ap (λ l. slice_range l 8 12) whole, sized ∙ ap (λ l. number_at Big l 4) (sym whole), ap (λ l. short_at Big l 12) whole ∙ version, omega (arith, ap length path, long))
    known Little p q r t a b tail path sized version long =
        let whole = ap (λ l. l ++ more) path in
        (ap (take 4) whole, ap (λ l. slice_range l 8 12) whole, sized ∙ ap (λ l. number_at Little l 4) (sym whole), ap (λ l. short_at Little l 12) whole ∙ version, omega (arith, ap length path, long))

pub section_other : (s : List ℕ) (order own : Order) → SpellsSection s order → slice_range s 8 12 ≡ order_magic own → (length s ≡ number_at own s (length s - 4)) × (short_at own s 12 ≡ 1)
section_other s order own x is =
    let known = section_known s [] order x in
    let none = append-nil s in
    let same : order ≡ own = order_one order own (sym known.1 ∙ ap (λ l. slice_range l 8 12) none ∙ is) in
    let again = (block_known order s section_type x.body x.block).3 in
    (again ∙ ap (λ o. number_at o s (length s - 4)) same, (λ i. short_at (sym same i) (sym none i) 12) ∙ known.3)

-- ---- any other block

module _ (order : Order) (interfaces : List NamedInterface) (s : List ℕ) where
  pub block_says : 12 ≤ length s → length s ≡ number_at order s 4 → length s % 4 ≡ 0 → length s ≤ longest_block → take 4 s ≢ section_type → length s ≡ number_at order s (length s - 4)
      → (kind : ℕ) → kind ≡ number_at order s 0 → (said : Said) → BodySays order interfaces kind (body_of s) said → BlockSays order interfaces s said
  block_says enough sized words few other again kind is said says =
      (take 4 s, body_of s, kind, block_spelled order s enough sized again words few, other, subst (λ (n : ℕ). Spells order (take 4 s) (n ∷ [])) (sym is) (four_first order s (omega arith)), says)

  pub body_says : (kind : ℕ) → kind ≡ number_at order s 0 → (said : Said) → BlockSays order interfaces s said → BodySays order interfaces kind (body_of s) said × (length s ≡ number_at order s (length s - 4))
  body_says kind is said (type, body, other, block, plain, typed, says) =
      let known = block_known order s type body block in
      let same : other ≡ kind = number_same order type (take 4 s) other _ typed (four_first order s (omega (arith, known.4))) known.0 ∙ sym is in
      (subst (λ (k : ℕ). BodySays order interfaces k (body_of s) said) same (subst (λ (l : List ℕ). BodySays order interfaces other l said) known.1 says), known.3)

  -- a frame of the body is one of the block
  pub packet_moved : (place : Place) (frame : FrameParts) → place.start ≤ place.end → place.end ≤ length (body_of s) → 12 ≤ length s → frame_at (record place { start = 8 + place.start; end = 8 + place.end }) s ≡ frame_at place (body_of s)
  packet_moved place frame order_is within enough =
      let e = slice_range-slice_range place.start place.end (length s - 4) s order_is (omega (arith, within, length-slice_range 8 (length s - 4) s (omega arith))) (omega arith) in
      λ i. record { section = place.section; interface = place.interface; link = place.link; time = place.time; direction = place.direction; damaged = place.damaged; missed = place.missed; original = place.original; bytes = e i }
