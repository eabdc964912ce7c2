-- What one datagram breaks whatever is missing is decided by the one message that it says, or by its two sides.
use Rattle.std.proofs.Common.{◌≡◌, ◌⊎◌, ◌↔◌, ℕ, ◌+◌, ◌/◌, ◌%◌, ◌<◌, ◌≤◌, true, false, List, [], ◌∷◌, length, Option, Some, None, inl, inr, refl, sym, subst, ap, ◌∙◌, arith}
use Rattle.std.proofs.lemmas.Bool.{true≢false}
use Rattle.std.proofs.lemmas.Nat.{mod_below}
use Rattle.tftp_packet.specs.{OptionMap, RequestParts, Message, Spells, End, Client}
use Rattle.tftp_packet.proofs.NoFault.{no_fault}
use Rattle.law_model.specs.{EndRule, PortRule}
use Rattle.law_end.specs.{Rule}
use Rattle.law_end.specs.declared.rule.Rule.TheVariants as rule
use Rattle.law_end.proofs.Division.Divided.{any_cases, any_first, any_later}
use Rattle.law_end.proofs.Spelled.{spelled_once}
use Rattle.law_tap.specs.{TapDatagram, TapSides, side_of, AreApart, is_passing, SidesBreak, IsTapRead, TapRoute}
use Rattle.law_tap.specs.LossyRules.{lossy_route, IsSaidBy, IsSaid, IsNumber, Explains, NothingExplains, block_size, LossyBreaks, LossyMalformed, LossyBroken, LossyPasses}
use Rattle.law_tap.specs.SaidFigures.{Figures, AreFigures, HaveLength}
use Rattle.law_tap.proofs.FiguresFit.{block_size_some}
use Rattle.law_tap.proofs.FiguresAfter.{said_cases, said_later, number_later, len_later}
use Rattle.law_tap.proofs.OneTapDivision.{one_end}

read_by : (d : TapDatagram) (r : TapRoute) → is_passing r ≡ true → (n : Message) × Spells d.payload n → IsTapRead r d
read_by d TapRoute.Request is read = read
read_by d TapRoute.FromClient is read = read
read_by d TapRoute.FromServer is read = read
read_by d _ is read = absurd (cc)

no_sides : (d : TapDatagram) (r : TapRoute) → is_passing r ≡ true → (broken : Rule) → SidesBreak r d broken → ⊥
no_sides d r is (rule.Port PortRule.Foreign) b = true≢false (sym is ∙ ap is_passing b)
no_sides d r is (rule.Port PortRule.Wrong) b = true≢false (sym is ∙ ap is_passing b)
no_sides d r is (rule.Port PortRule.BadAnswer) (inl b) = true≢false (sym is ∙ ap is_passing b)
no_sides d r is (rule.Port PortRule.BadAnswer) (inr b) = true≢false (sym is ∙ ap is_passing b.0)
no_sides d r is _ b = absurd b

not_malformed : (s : TapSides) (d : TapDatagram) (n : Message) → Spells d.payload n → (broken : Rule) → LossyMalformed s d broken → ⊥
not_malformed s d n spells (rule.Malformed fault) (goes, holds) = no_fault d.payload n fault spells.1 holds.0
not_malformed s d n spells _ b = absurd b

not_in_transfer : (s : TapSides) (d : TapDatagram) → is_passing (lossy_route s d) ≡ false → (broken : Rule) → LossyMalformed s d broken → ⊥
not_in_transfer s d out (rule.Malformed fault) (goes, holds) = true≢false (sym goes ∙ out)
not_in_transfer s d out _ b = absurd b

module _ (s : TapSides) (earlier : List TapDatagram) (d : TapDatagram) where
  -- it says this, after a request that was seen
  pub message_passes : AreApart s → (e : End) (n : Message) → IsSaidBy s e n d → (asked : RequestParts) → ((now : RequestParts) → IsSaid s earlier Client (Message.Request now) → now ≡ asked)
      → ((broken : Rule) → LossyBreaks s earlier d asked e n broken → ⊥) → LossyPasses s earlier d
  message_passes apart e n says asked one none = record { read = read_by d (lossy_route s d) says.goes (n, says.spells); lawful = lawful } where
    lawful : (broken : Rule) → LossyBroken s earlier d broken → ⊥
    lawful broken (inl b) = no_sides d (lossy_route s d) says.goes broken b
    lawful broken (inr (inl b)) = not_malformed s d n says.spells broken b
    lawful broken (inr (inr b)) =
        let end = one_end s apart b.end e (sym b.says.source ∙ says.source) in
        let message = spelled_once d.payload b.message n b.says.spells says.spells in
        let same = one b.asked b.request in
        none broken (subst (λ r. LossyBreaks s earlier d r e n broken) same (subst (λ m. LossyBreaks s earlier d b.asked e m broken) message (subst (λ g. LossyBreaks s earlier d b.asked g b.message broken) end b.breaks)))

  -- it says something, and no request was seen
  pub first_passes : (e : End) (n : Message) → IsSaidBy s e n d → ((now : RequestParts) → IsSaid s earlier Client (Message.Request now) → ⊥) → LossyPasses s earlier d
  first_passes e n says none = record { read = read_by d (lossy_route s d) says.goes (n, says.spells); lawful = lawful } where
    lawful : (broken : Rule) → LossyBroken s earlier d broken → ⊥
    lawful broken (inl b) = no_sides d (lossy_route s d) says.goes broken b
    lawful broken (inr (inl b)) = not_malformed s d n says.spells broken b
    lawful broken (inr (inr b)) = none b.asked b.request

  -- it is none of the transfer
  pub outside_passes : is_passing (lossy_route s d) ≡ false → IsTapRead (lossy_route s d) d → ((broken : Rule) → SidesBreak (lossy_route s d) d broken → ⊥) → LossyPasses s earlier d
  outside_passes out read sides = record { read = read; lawful = lawful } where
    lawful : (broken : Rule) → LossyBroken s earlier d broken → ⊥
    lawful broken (inl b) = sides broken b
    lawful broken (inr (inl b)) = not_in_transfer s d out broken b
    lawful broken (inr (inr b)) = true≢false (sym b.says.goes ∙ out)

  -- ---- block 65535

  fewer : (asked : RequestParts) (agreed : OptionMap) (total : ℕ) → Explains s asked (d ∷ earlier) agreed total → Explains s asked earlier agreed total
  fewer asked agreed total x = record {
    may = x.may;
    spelled = x.spelled;
    given = λ e options said. x.given e options (any_later (IsSaidBy s e (Message.Oack options)) d earlier said);
    zero = λ get e said. x.zero get e (any_later (IsSaidBy s e (Message.Ack 0)) d earlier said);
    size = x.size;
    numbered = x.numbered;
    numbers = λ k is. x.numbers k (more k is);
    blocks = λ e k bytes said. x.blocks e k bytes (any_later (IsSaidBy s e (Message.Data k bytes)) d earlier said);
  }
    where
      more : (k : ℕ) → IsNumber s earlier k → IsNumber s (d ∷ earlier) k
      more k (e, inl said) = (e, inl (any_later (IsSaidBy s e (Message.Ack k)) d earlier said))
      more k (e, inr (bytes, said)) = (e, inr (bytes, any_later (IsSaidBy s e (Message.Data k bytes)) d earlier said))

  pub explained_is_not_beyond : (e : End) (k : ℕ) (bytes : List ℕ) → IsSaidBy s e (Message.Data k bytes) d → (asked : RequestParts) → (NothingExplains s asked (d ∷ earlier) → ⊥)
      → LossyBreaks s earlier d asked e (Message.Data k bytes) (rule.Block EndRule.BeyondBlock65535) → ⊥
  explained_is_not_beyond e k bytes says asked some (inl above) = some (λ agreed total x.
      let high = x.numbers k (e, inr (bytes, any_first (IsSaidBy s e (Message.Data k bytes)) d earlier says)) in
      let most = x.numbered in
      omega (arith, above, high, most))
  explained_is_not_beyond e k bytes says asked some (inr (at, whole)) = some (λ agreed total x.
      let long = whole agreed total (fewer asked agreed total x) in
      let most = x.numbered in
      let size = sized asked agreed total x in
      let less = mod_below total (block_size agreed) size in
      elim (x.blocks e k bytes (any_first (IsSaidBy s e (Message.Data k bytes)) d earlier says)) [ inl full ↦ let up = full.0 in omega (arith, at, most, up) | inr last ↦ let is = last.1 in omega (arith, is, less, long) ])
    where
      sized : (asked : RequestParts) (agreed : OptionMap) (total : ℕ) → Explains s asked (d ∷ earlier) agreed total → 0 < block_size agreed
      sized asked agreed total x = block_size_some s asked (d ∷ earlier) agreed total x

  -- ---- what has no number leaves the figures as they are

  pub silent_figures : (e : End) (n : Message) → IsSaidBy s e n d → ((k : ℕ) → n ≡ Message.Ack k → ⊥) → ((k : ℕ) (bytes : List ℕ) → n ≡ Message.Data k bytes → ⊥) → (f : Figures) → AreFigures f s earlier → AreFigures f s (d ∷ earlier)
  silent_figures e n says no_ack no_data f are = record {
    greatest = are.greatest;
    highest = λ k is. are.highest k (back k is);
    reached = elim are.reached [ inl none ↦ inl none | inr number ↦ inr (number_later s earlier d e n says f.reach number) ];
    zero = (
      λ on. let (g, said) = are.zero.0 on in (g, said_later s earlier d e n says g (Message.Ack 0) said),
      λ (g, said). elim (said_cases s earlier d e n says g (Message.Ack 0) said) [ inl now ↦ absurd (no_ack 0 now) | inr before ↦ are.zero.1 (g, before) ],
    );
    below = len_later s earlier d e n says (λ k. k < f.reach) (λ k bytes is which. no_data k bytes is) f.below are.below;
    tail = len_later s earlier d e n says (λ k. k ≡ f.reach) (λ k bytes is which. no_data k bytes is) f.tail are.tail;
  }
    where
      back : (k : ℕ) → IsNumber s (d ∷ earlier) k → IsNumber s earlier k
      back k (g, inl said) = elim (said_cases s earlier d e n says g (Message.Ack k) said) [ inl now ↦ absurd (no_ack k now) | inr before ↦ (g, inl before) ]
      back k (g, inr (bytes, said)) = elim (said_cases s earlier d e n says g (Message.Data k bytes) said) [ inl now ↦ absurd (no_data k bytes now) | inr before ↦ (g, inr (bytes, before)) ]

  pub outside_figures : is_passing (lossy_route s d) ≡ false → (f : Figures) → AreFigures f s earlier → AreFigures f s (d ∷ earlier)
  outside_figures out f are = record {
    greatest = are.greatest;
    highest = λ k is. are.highest k (back k is);
    reached = elim are.reached [ inl none ↦ inl none | inr number ↦ inr (on_number f.reach number) ];
    zero = (λ on. let (g, said) = are.zero.0 on in (g, on_said g (Message.Ack 0) said), λ (g, said). are.zero.1 (g, before g (Message.Ack 0) said));
    below = lengths (λ k. k < f.reach) f.below are.below;
    tail = lengths (λ k. k ≡ f.reach) f.tail are.tail;
  }
    where
      before : (g : End) (x : Message) → IsSaid s (d ∷ earlier) g x → IsSaid s earlier g x
      before g x said = elim (any_cases (IsSaidBy s g x) d earlier said) [ inl now ↦ absurd (true≢false (sym now.goes ∙ out)) | inr was ↦ was ]

      on_said : (g : End) (x : Message) → IsSaid s earlier g x → IsSaid s (d ∷ earlier) g x
      on_said g x said = any_later (IsSaidBy s g x) d earlier said

      on_number : (k : ℕ) → IsNumber s earlier k → IsNumber s (d ∷ earlier) k
      on_number k (g, inl said) = (g, inl (on_said g (Message.Ack k) said))
      on_number k (g, inr (bytes, said)) = (g, inr (bytes, on_said g (Message.Data k bytes) said))

      back : (k : ℕ) → IsNumber s (d ∷ earlier) k → IsNumber s earlier k
      back k (g, inl said) = (g, inl (before g (Message.Ack k) said))
      back k (g, inr (bytes, said)) = (g, inr (bytes, before g (Message.Data k bytes) said))

      lengths : (Which : ℕ → Type 0) (o : Option ℕ) → HaveLength s earlier Which o → HaveLength s (d ∷ earlier) Which o
      lengths Which None none = λ g k bytes said which. none g k bytes (before g (Message.Data k bytes) said) which
      lengths Which (Some long) (all, (g, k, bytes, said, which)) = (λ h j x told at. all h j x (before h (Message.Data j x) told) at, (g, k, bytes, on_said g (Message.Data k bytes) said, which))
