-- How many bytes a piece has, by its own first bytes.
use Rattle.std.proofs.Common.{◌≡◌, ◌≢◌, inl, inr, ℕ, ◌+◌, ◌%◌, ◌<◌, ◌≤◌, List, length, take, get_or, refl, sym, ap, ◌∙◌, arith, Bool, true, false, Result, Ok, Err}
use Rattle.std.specs.List.{slice_range}
use Rattle.net_pcap.specs.{number_at, magic, section_type, order_magic, longest_frame, Announces, AnnouncesSection, SizeTells, BlockSizeTells, IsTooLong, Order, Big, Little, Unopened, FaultKind, Bad, TooLong}
use Rattle.net_pcap.specs.declared.layout.Classic.{Classic as Header}
use Rattle.net_pcap.specs.declared.layout.Layout.TheVariants.{Classic, Blocks}

pub order_one : (o p : Order) → order_magic o ≡ order_magic p → o ≡ p
order_one Big Big e = refl
order_one Little Little e = refl
order_one Big Little e = absurd (omega (arith, ap (λ (l : List ℕ). get_or l 0 0) e))
order_one Little Big e = absurd (omega (arith, ap (λ (l : List ℕ). get_or l 0 0) e))

no_header : {A : Type 0} {order : Order} → Blocks order ≡ Unopened → A
no_header e = absurd (let x : ⊥ = cc in x)

pub magic_other : (o : Order) (nano : Bool) → magic o nano ≡ section_type → ⊥
magic_other Big false e = omega (arith, ap (λ (l : List ℕ). get_or l 0 0) e)
magic_other Big true e = omega (arith, ap (λ (l : List ℕ). get_or l 0 0) e)
magic_other Little false e = omega (arith, ap (λ (l : List ℕ). get_or l 0 0) e)
magic_other Little true e = omega (arith, ap (λ (l : List ℕ). get_or l 0 0) e)

-- ---- a section header announces the length in its own order

module _ (front : List ℕ) (own : Order) (enough : 12 ≤ length front) (section : take 4 front ≡ section_type) (is : slice_range front 8 12 ≡ order_magic own) where
  section_only : (size : ℕ) → AnnouncesSection front size → size ≡ number_at own front 4
  section_only size (typed, other, magic_is, sized) = let same : other ≡ own = order_one other own (sym magic_is ∙ is) in sized ∙ ap (λ o. number_at o front 4) same

  unopened_only : (size : ℕ) → Announces Unopened front size → size ≡ number_at own front 4
  unopened_only size (long, inl a) = section_only size a
  unopened_only size (long, inr (order, nano, is_magic, sized)) = absurd (magic_other order nano (sym is_magic ∙ section))

  blocks_only : (order : Order) (size : ℕ) → Announces (Blocks order) front size → size ≡ number_at own front 4
  blocks_only order size (long, inl a) = section_only size a
  blocks_only order size (long, inr (other, sized)) = absurd (other section)

  pub section_unopened : (r : Result ℕ FaultKind) → BlockSizeTells (number_at own front 4) r → SizeTells Unopened front r
  section_unopened (Ok size) (e, few, least, words) = ((enough, inl (section, own, is, e)), (omega (arith, e, few), (omega (arith, e, least), ap (λ n. n % 4) e ∙ words)))
  section_unopened (Err Bad) (few, never) = (
    enough,
    λ size a.
        let same = unopened_only size a in
        (omega (arith, same, few), λ regular. never (omega (arith, same, regular.0), ap (λ n. n % 4) (sym same) ∙ regular.1)),
    λ e. inl section,
  )
  section_unopened (Err TooLong) long = (number_at own front 4, (enough, inl (section, own, is, refl)), long)
  section_unopened (Err _) h = absurd h

  pub section_blocks : (order : Order) (r : Result ℕ FaultKind) → BlockSizeTells (number_at own front 4) r → SizeTells (Blocks order) front r
  section_blocks order (Ok size) (e, few, least, words) = ((enough, inl (section, own, is, e)), (omega (arith, e, few), (omega (arith, e, least), ap (λ n. n % 4) e ∙ words)))
  section_blocks order (Err Bad) (few, never) = (
    enough,
    λ size a.
        let same = blocks_only order size a in
        (omega (arith, same, few), λ regular. never (omega (arith, same, regular.0), ap (λ n. n % 4) (sym same) ∙ regular.1)),
    λ e. no_header e,
  )
  section_blocks order (Err TooLong) long = (number_at own front 4, (enough, inl (section, own, is, refl)), long)
  section_blocks order (Err _) h = absurd h

-- ---- any other block announces it in the section's

module _ (front : List ℕ) (order : Order) (enough : 12 ≤ length front) (other : take 4 front ≢ section_type) where
  plain_only : (size : ℕ) → Announces (Blocks order) front size → size ≡ number_at order front 4
  plain_only size (long, inl a) = absurd (other a.0)
  plain_only size (long, inr a) = a.1

  pub plain_blocks : (r : Result ℕ FaultKind) → BlockSizeTells (number_at order front 4) r → SizeTells (Blocks order) front r
  plain_blocks (Ok size) (e, few, least, words) = ((enough, inr (other, e)), (omega (arith, e, few), (omega (arith, e, least), ap (λ n. n % 4) e ∙ words)))
  plain_blocks (Err Bad) (few, never) = (
    enough,
    λ size a.
        let same = plain_only size a in
        (omega (arith, same, few), λ regular. never (omega (arith, same, regular.0), ap (λ n. n % 4) (sym same) ∙ regular.1)),
    λ e. no_header e,
  )
  plain_blocks (Err TooLong) long = (number_at order front 4, (enough, inr (other, refl)), long)
  plain_blocks (Err _) h = absurd h

pub record_long : (classic : Header) (front : List ℕ) (captured : ℕ) → 16 ≤ length front → captured ≡ number_at classic.order front 8 → longest_frame < captured → IsTooLong (Classic classic) front
record_long classic front captured enough is long = (16 + captured, (enough, ap (λ n. 16 + n) is), omega arith)
