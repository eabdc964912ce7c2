-- What the first bytes of a piece announce stays, whatever follows them.
use Rattle.std.proofs.Common.{◌≡◌, inl, inr, ℕ, ◌<◌, ◌≤◌, List, ◌∷◌, ◌++◌, length, length-append, sym, ap, ◌∙◌, subst, lit<, arith}
use Rattle.net_pcap.specs.{number_at, Announces, AnnouncesSection, BeginsAsOne, IsSize, front_of, IsLonger, IsPart, IsShort, IsCut, IsSkipped, IsWhole, Layout, Unopened}
use Rattle.net_pcap.specs.declared.layout.Layout.TheVariants.{Classic, Blocks}
use Rattle.net_pcap.proofs.Announced.{order_one, magic_other}

pub announces_more : (layout : Layout) (p b : List ℕ) (n : ℕ) → Announces layout p n → Announces layout (p ++ b) n
announces_more Unopened (b0 ∷ b1 ∷ b2 ∷ b3 ∷ b4 ∷ b5 ∷ b6 ∷ b7 ∷ b8 ∷ b9 ∷ b10 ∷ b11 ∷ u) b n (long, a) = (omega (arith, length-append u b), a)
announces_more (Classic classic) (b0 ∷ b1 ∷ b2 ∷ b3 ∷ b4 ∷ b5 ∷ b6 ∷ b7 ∷ b8 ∷ b9 ∷ b10 ∷ b11 ∷ b12 ∷ b13 ∷ b14 ∷ b15 ∷ u) b n (long, a) = (omega (arith, length-append u b), a)
announces_more (Blocks order) (b0 ∷ b1 ∷ b2 ∷ b3 ∷ b4 ∷ b5 ∷ b6 ∷ b7 ∷ b8 ∷ b9 ∷ b10 ∷ b11 ∷ u) b n (long, a) = (omega (arith, length-append u b), a)
announces_more Unopened _ b n a = absurd (omega (arith, a.0))
announces_more (Classic classic) _ b n a = absurd (omega (arith, a.0))
announces_more (Blocks order) _ b n a = absurd (omega (arith, a.0))

pub announces_enough : (layout : Layout) (p : List ℕ) (n : ℕ) → Announces layout p n → front_of layout ≤ length p
announces_enough Unopened p n a = a.0
announces_enough (Classic classic) p n a = a.0
announces_enough (Blocks order) p n a = a.0

-- so does the type of a block
pub skipped_front : (layout : Layout) (p b : List ℕ) → front_of layout ≤ length p → IsSkipped layout (p ++ b) → IsSkipped layout p
skipped_front Unopened p b enough skipped = skipped
skipped_front (Classic classic) p b enough skipped = skipped
skipped_front (Blocks order) (b0 ∷ b1 ∷ b2 ∷ b3 ∷ u) b enough skipped = skipped
skipped_front (Blocks order) _ b enough skipped = absurd (omega arith)

pub skipped_more : (layout : Layout) (p b : List ℕ) → front_of layout ≤ length p → IsSkipped layout p → IsSkipped layout (p ++ b)
skipped_more Unopened p b enough skipped = skipped
skipped_more (Classic classic) p b enough skipped = skipped
skipped_more (Blocks order) (b0 ∷ b1 ∷ b2 ∷ b3 ∷ u) b enough skipped = skipped
skipped_more (Blocks order) _ b enough skipped = absurd (omega arith)

section_one : (p : List ℕ) (m n : ℕ) → AnnouncesSection p m → AnnouncesSection p n → m ≡ n
section_one p m n (typed, order, magic_is, sized) (again, other, is, size) = sized ∙ ap (λ o. number_at o p 4) (order_one order other (sym magic_is ∙ is)) ∙ sym size

pub announces_one : (layout : Layout) (p : List ℕ) (m n : ℕ) → Announces layout p m → Announces layout p n → m ≡ n
announces_one Unopened p m n (long, inl a) (more, inl b) = section_one p m n a b
announces_one Unopened p m n (long, inl a) (more, inr (order, nano, is, sized)) = absurd (magic_other order nano (sym is ∙ a.0))
announces_one Unopened p m n (long, inr (order, nano, is, sized)) (more, inl b) = absurd (magic_other order nano (sym is ∙ b.0))
announces_one Unopened p m n (long, inr (order, nano, is, sized)) (more, inr (other, micro, same, size)) = sized ∙ sym size
announces_one (Classic classic) p m n a b = a.1 ∙ sym b.1
announces_one (Blocks order) p m n (long, inl a) (more, inl b) = section_one p m n a b
announces_one (Blocks order) p m n (long, inl a) (more, inr b) = absurd (b.0 a.0)
announces_one (Blocks order) p m n (long, inr a) (more, inl b) = absurd (a.0 b.0)
announces_one (Blocks order) p m n (long, inr a) (more, inr b) = a.1 ∙ sym b.1

pub begins_of : (layout : Layout) (p : List ℕ) (n : ℕ) → Announces layout p n → layout ≡ Unopened → BeginsAsOne p
begins_of Unopened p n (long, inl a) is = inl a.0
begins_of Unopened p n (long, inr (order, nano, magic_is, sized)) is = inr (order, nano, magic_is)
begins_of (Classic classic) p n a is = absurd (let x : ⊥ = cc in x)
begins_of (Blocks order) p n a is = absurd (let x : ⊥ = cc in x)

-- fewer bytes than are read first
pub short_part : (layout : Layout) (p : List ℕ) → length p < front_of layout → IsPart layout p
short_part layout p short n a = absurd (omega (arith, short, announces_enough layout p n a))

pub short_is_part : (layout : Layout) (p : List ℕ) → IsShort layout p → IsPart layout p
short_is_part layout p (inl short) = short_part layout p short
short_is_part layout p (inr (size, announced, sized, short)) = λ n a. omega (arith, short, announces_one layout p size n announced a)

module _ (layout : Layout) (first second bytes : List ℕ) (size : ℕ) (are : second ≡ first ++ bytes) (announced : Announces layout first size) where
  grown : Announces layout second size
  grown = subst (λ (l : List ℕ). Announces layout l size) (sym are) (announces_more layout first bytes size announced)

  pub grown_part : length second < size → IsPart layout second
  grown_part short n a = omega (arith, short, announces_one layout second n size a grown)

  pub grown_cut : front_of layout ≤ length first → 0 < front_of layout → IsSize layout size → length second < size → IsCut layout second
  grown_cut enough some sized short = (inr (size, grown, sized, short), (λ none. omega (arith, ap length none, ap length are, length-append first bytes, enough, some)), begins_of layout second size grown)

  pub grown_whole : IsSize layout size → length second ≡ size → IsWhole layout second
  grown_whole sized whole = (subst (Announces layout second) (sym whole) grown, subst (IsSize layout) (sym whole) sized)

  pub grown_longer : (room : ℕ) → front_of layout ≤ length first → IsSize layout size → room < size → (IsSkipped layout first → ⊥) → IsLonger room layout second
  grown_longer room enough sized full held = (size, inr (grown, sized, λ skipped. held (skipped_front layout first bytes enough (subst (IsSkipped layout) are skipped))), full)

pub front_some : (layout : Layout) → 0 < front_of layout
front_some Unopened = lit< tt
front_some (Classic classic) = lit< tt
front_some (Blocks order) = lit< tt
