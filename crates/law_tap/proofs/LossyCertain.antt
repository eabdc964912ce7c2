-- What breaks a rule with losses is in no lawful list, whatever is missing.
use Rattle.std.proofs.Common.{◌≡◌, ℕ, ◌<◌, ◌≤◌, Bool, true, false, List, [], ◌∷◌, length, inl, inr, refl, sym, subst, ap, ◌∙◌, arith}
use Rattle.std.proofs.lemmas.Bool.{true≢false}
use Rattle.std.proofs.lemmas.Nat.{mod_below}
use Rattle.tftp_packet.specs.{OptionMap, RequestParts, Message, Spells, Side, Get, Put, End, Client, Server}
use Rattle.tftp_packet.specs.Rounds.{greatest_of}
use Rattle.tftp_packet.proofs.NoFault.{no_fault}
use Rattle.tftp_nego.specs.{MayAgree, Holds, NegoFault}
use Rattle.tftp_nego.proofs.Tested.{no_fault as faultless}
use Rattle.law_model.specs.Model.{request_of, SomethingAgreed, blksize_of, block, block_count, MachinePacket, Req, Oack, Data, Ack, Error}
use Rattle.law_model.specs.Model.Machines.{sender_of, receiver_of}
use Rattle.law_model.specs.{EndRule, PortRule}
use Rattle.law_model.proofs.ModelLemmas.Members.{contains_first}
use Rattle.law_end.specs.{IsWrongKind, Rule, says_some}
use Rattle.law_end.specs.declared.rule.Rule.TheVariants as rule
use Rattle.law_end.proofs.Division.Divided.{any_first, any_later}
use Rattle.law_tap.specs.{TapDatagram, TapSides, AreApart, TapLabel, Main, TapDivision, HasTapLabel, is_passing, SidesBreak, IsTapRead, TapRoute}
use Rattle.law_tap.specs.TapDress.{Stray, StrayAnswer}
use Rattle.law_tap.specs.Losses.{lost}
use Rattle.law_tap.specs.LossesBetween.{IsLawfulBetweenWithLosses, IsCertainBetween}
use Rattle.law_tap.specs.LossyRules.{lossy_route, IsSaidBy, IsSaid, Explains, NothingExplains, block_size, LossyBreaks, LossyMalformed, LossyBroken, BreaksNoLossyRule}
use Rattle.law_tap.proofs.CertainBetween.{less_between_lossy}
use Rattle.law_tap.proofs.Left.{loses_none}
use Rattle.law_tap.proofs.LossySaid.{Known, known, IsLabelled, label_at}
use Rattle.law_tap.proofs.LossyExplained.{told_request, told_oack, told_data, told_ack, told_error, asks, agrees, sends, gets, one_told, Oacked, oacked_data, oacked_ack, some_size, explained}
use Rattle.law_tap.proofs.OneTap.{Has}
use Rattle.law_tap.proofs.TapRouted.{pass_route, label_route, passing_is}

-- ---- kinds

right_request : (e : End) (side : Side) (now : RequestParts) → e ≡ Client → IsWrongKind e side (Message.Request now) → ⊥
right_request Client Get now is wrong = wrong
right_request Client Put now is wrong = wrong
right_request Server side now is wrong = absurd (cc)

right_oack : (e : End) (side : Side) (options : OptionMap) → e ≡ Server → IsWrongKind e side (Message.Oack options) → ⊥
right_oack Server Get options is wrong = wrong
right_oack Server Put options is wrong = wrong
right_oack Client side options is wrong = absurd (cc)

right_data : (e : End) (side : Side) (n : ℕ) (bytes : List ℕ) → e ≡ sender_of side → IsWrongKind e side (Message.Data n bytes) → ⊥
right_data Client Get n bytes is wrong = absurd (cc)
right_data Client Put n bytes is wrong = wrong
right_data Server Get n bytes is wrong = wrong
right_data Server Put n bytes is wrong = absurd (cc)

right_ack : (e : End) (side : Side) (n : ℕ) → e ≡ receiver_of side → IsWrongKind e side (Message.Ack n) → ⊥
right_ack Client Get n is wrong = wrong
right_ack Client Put n is wrong = absurd (cc)
right_ack Server Get n is wrong = absurd (cc)
right_ack Server Put n is wrong = wrong

right_error : (e : End) (side : Side) (code : ℕ) (text : List ℕ) → IsWrongKind e side (Message.Error code text) → ⊥
right_error Client Get code text wrong = wrong
right_error Client Put code text wrong = wrong
right_error Server Get code text wrong = wrong
right_error Server Put code text wrong = wrong

-- ---- routes

abbrev may_be : TapRoute → Bool
may_be TapRoute.ForeignPort = false
may_be TapRoute.WrongPort = false
may_be TapRoute.NoStrayAnswer = false
may_be _ = true

passing_may : (t : TapRoute) → is_passing t ≡ true → may_be t ≡ true
passing_may TapRoute.ForeignPort is = absurd (cc)
passing_may TapRoute.WrongPort is = absurd (cc)
passing_may TapRoute.NoStrayAnswer is = absurd (cc)
passing_may _ is = refl

label_may : (l : TapLabel) → may_be (label_route l) ≡ true
label_may (Main x) = passing_may (pass_route x.from x.packet) (passing_is x.from x.packet)
label_may Stray = refl
label_may StrayAnswer = refl

module _ (s : TapSides) (apart : AreApart s) (earlier : List TapDatagram) (d : TapDatagram) (lossy : IsLawfulBetweenWithLosses s (d ∷ earlier)) where
  abbrev k : Known s apart (d ∷ earlier)
  k = known s apart (d ∷ earlier) lossy

  here : (e : End) (n : Message) → IsSaidBy s e n d → IsSaid s (d ∷ earlier) e n
  here e n said = any_first (IsSaidBy s e n) d earlier said

  before : (e : End) (n : Message) → IsSaid s earlier e n → IsSaid s (d ∷ earlier) e n
  before e n said = any_later (IsSaidBy s e n) d earlier said

  -- ---- by the two sides

  labelled : IsLabelled s apart d
  labelled = label_at s apart (d ∷ earlier) lossy d (contains_first d earlier)

  no_route : (t : TapRoute) → may_be t ≡ false → lossy_route s d ≡ t → ⊥
  no_route t bad is = true≢false (sym (label_may labelled.label) ∙ ap may_be (sym labelled.route ∙ is) ∙ bad)

  answers : lossy_route s d ≡ TapRoute.StrayAnswer → (text : List ℕ) × Spells d.payload (Message.Error 5 text)
  answers is = by labelled.label labelled.has (sym labelled.route ∙ is) where
    by : (l : TapLabel) → HasTapLabel s says_some labelled.earlier d l → label_route l ≡ TapRoute.StrayAnswer → (text : List ℕ) × Spells d.payload (Message.Error 5 text)
    by (Main x) c route = absurd (true≢false (sym (passing_is x.from x.packet) ∙ ap is_passing route))
    by Stray c route = absurd (cc)
    by StrayAnswer c route = c.spells

  sides : (broken : Rule) → SidesBreak (lossy_route s d) d broken → ⊥
  sides (rule.Port PortRule.Foreign) b = no_route TapRoute.ForeignPort refl b
  sides (rule.Port PortRule.Wrong) b = no_route TapRoute.WrongPort refl b
  sides (rule.Port PortRule.BadAnswer) (inl b) = no_route TapRoute.NoStrayAnswer refl b
  sides (rule.Port PortRule.BadAnswer) (inr (route, none)) = let is = answers route in none is.0 is.1
  sides _ b = absurd b

  malformed : (broken : Rule) → LossyMalformed s d broken → ⊥
  malformed (rule.Malformed fault) (goes, holds) = by labelled.label labelled.has (sym (ap is_passing labelled.route) ∙ goes) where
    by : (l : TapLabel) → HasTapLabel s says_some labelled.earlier d l → is_passing (label_route l) ≡ true → ⊥
    by (Main x) c route = no_fault d.payload c.spells.0 fault c.spells.1.1 holds.0
    by Stray c route = absurd (cc)
    by StrayAnswer c route = absurd (cc)
  malformed _ b = absurd b

  -- ---- what is said

  module _ (asked : RequestParts) (request : IsSaid s earlier Client (Message.Request asked)) where
    asked_is : asked ≡ request_of k.m
    asked_is = (told_request s apart (d ∷ earlier) k Client asked (before Client (Message.Request asked) request)).0

    side_is : k.m.side ≡ asked.side
    side_is = ap (λ (r : RequestParts). r.side) (sym asked_is)

    fewer : (agreed : OptionMap) (total : ℕ) → Explains s asked (d ∷ earlier) agreed total → Explains s asked earlier agreed total
    fewer agreed total x = record {
      may = x.may;
      spelled = x.spelled;
      given = λ e options said. x.given e options (before e (Message.Oack options) said);
      zero = λ get e said. x.zero get e (before e (Message.Ack 0) said);
      size = x.size;
      numbered = x.numbered;
      numbers = λ n is. x.numbers n (
        is.0,
        elim is.1 [
          | inl said ↦ inl (before is.0 (Message.Ack n) said)
          | inr (bytes, said) ↦ inr (bytes, before is.0 (Message.Data n bytes) said)
        ],
      );
      blocks = λ e n bytes said. x.blocks e n bytes (before e (Message.Data n bytes) said);
    }

    all : Oacked s apart (d ∷ earlier) k → Explains s asked (d ∷ earlier) k.m.agreed (length k.wire)
    all oacked = explained s apart (d ∷ earlier) k asked (before Client (Message.Request asked) request) oacked

    unexplained : Oacked s apart (d ∷ earlier) k → NothingExplains s asked (d ∷ earlier) → ⊥
    unexplained oacked none = none k.m.agreed (length k.wire) (all oacked)

    -- a request
    requests : (e : End) (now : RequestParts) → IsSaidBy s e (Message.Request now) d → (broken : Rule) → LossyBreaks s earlier d asked e (Message.Request now) broken → ⊥
    requests e now said rule.WrongKind b = right_request e asked.side now (asks s apart (d ∷ earlier) k e (told_request s apart (d ∷ earlier) k e now (here e _ said)).1) b
    requests e now said rule.RequestChanged b = b ((told_request s apart (d ∷ earlier) k e now (here e _ said)).0 ∙ sym asked_is)
    requests e now said _ b = absurd b

    -- an ERROR
    errors : (e : End) (code : ℕ) (text : List ℕ) → IsSaidBy s e (Message.Error code text) d → (broken : Rule) → LossyBreaks s earlier d asked e (Message.Error code text) broken → ⊥
    errors e code text said rule.WrongKind b = right_error e asked.side code text b
    errors e code text said rule.AfterError (c, t, first, differs) =
        let one = told_error s apart (d ∷ earlier) k e code text (here e _ said) in
        let other = told_error s apart (d ∷ earlier) k e c t (before e _ first) in
        let same = one_told s apart (d ∷ earlier) k e code c text t one other in
        differs (λ i. Message.Error (same.0 i) (same.1 i))
    errors e code text said _ b = absurd b

    -- an OACK
    oacks : (e : End) (options : OptionMap) → IsSaidBy s e (Message.Oack options) d → (broken : Rule) → LossyBreaks s earlier d asked e (Message.Oack options) broken → ⊥
    oacks e options said broken b = by broken b where
      told : (options ≡ k.m.agreed) × Has k.passed e Oack
      told = told_oack s apart (d ∷ earlier) k e options (here e _ said)

      agreed : (e ≡ Server) × SomethingAgreed k.m
      agreed = agrees s apart (d ∷ earlier) k e told.1

      oacked : Oacked s apart (d ∷ earlier) k
      oacked some = subst (λ f. Has k.passed f Oack) agreed.0 told.1

      good : (fault : NegoFault) → Holds s.rollover fault asked options → ⊥
      good fault holds = faultless s.rollover asked options (λ none. agreed.1 (sym told.0 ∙ none)) (subst (MayAgree s.rollover asked) (sym told.0) (all oacked).may) fault holds

      by : (broken : Rule) → LossyBreaks s earlier d asked e (Message.Oack options) broken → ⊥
      by rule.WrongKind b = right_oack e asked.side options agreed.0 b
      by (rule.Agreement broken) b = good (NegoFault.Broken broken) b
      by rule.OackChanged (first, at, differs) = differs (told.0 ∙ sym (told_oack s apart (d ∷ earlier) k e first (before e _ at)).0)
      by rule.ReplyChanged b = unexplained oacked b.1
      by (rule.Block EndRule.BeyondBlock65535) b = good NegoFault.BeyondBlock65535 b
      by _ b = absurd b

    -- a block
    blocks : (e : End) (n : ℕ) (bytes : List ℕ) → IsSaidBy s e (Message.Data n bytes) d → (broken : Rule) → LossyBreaks s earlier d asked e (Message.Data n bytes) broken → ⊥
    blocks e n bytes said broken b = by broken b where
      told : (bytes ≡ block (blksize_of k.m) k.wire n) × Has k.passed e (Data n)
      told = told_data s apart (d ∷ earlier) k e n bytes (here e _ said)

      placed : (e ≡ sender_of k.m.side) × (1 ≤ n) × (n ≤ block_count (blksize_of k.m) k.wire)
      placed = sends s apart (d ∷ earlier) k e n told.1

      oacked : Oacked s apart (d ∷ earlier) k
      oacked = oacked_data s apart (d ∷ earlier) k e n told.1

      -- the last of the greatest number is short
      short : n ≡ greatest_of s.rollover → length bytes < block_size k.m.agreed
      short at =
          let x = all oacked in
          let low = x.numbered in
          let some = some_size s apart (d ∷ earlier) k oacked in
          let less = mod_below (length k.wire) (blksize_of k.m) some in
          elim (x.blocks e n bytes (here e _ said)) [ inl whole ↦ let up = whole.0 in absurd (omega (arith, at, low, up)) | inr rest ↦ let is = rest.1 in omega (arith, is, less) ]

      by : (broken : Rule) → LossyBreaks s earlier d asked e (Message.Data n bytes) broken → ⊥
      by rule.WrongKind b = right_data e asked.side n bytes (placed.0 ∙ ap sender_of side_is) b
      by (rule.Block EndRule.BeyondBlock65535) (inl above) =
          let x = all oacked in
          let low = x.numbered in
          let high = x.numbers n (e, inr (bytes, here e _ said)) in
          omega (arith, above, high, low)
      by (rule.Block EndRule.BeyondBlock65535) (inr (at, whole)) =
          let long = whole k.m.agreed (length k.wire) (fewer k.m.agreed (length k.wire) (all oacked)) in
          let less = short at in
          omega (arith, long, less)
      by (rule.Block EndRule.BlockZero) b = let low = placed.1 in omega (arith, b, low)
      by (rule.Block EndRule.BlockLength) b = unexplained oacked b
      by (rule.Block EndRule.BlockChanged) (other, at, differs) = differs (told.0 ∙ sym (told_data s apart (d ∷ earlier) k e n other (before e _ at)).0)
      by _ b = absurd b

    -- an ACK
    acks : (e : End) (n : ℕ) → IsSaidBy s e (Message.Ack n) d → (broken : Rule) → LossyBreaks s earlier d asked e (Message.Ack n) broken → ⊥
    acks e n said broken b = by broken b where
      told : Has k.passed e (Ack n)
      told = told_ack s apart (d ∷ earlier) k e n (here e _ said)

      by : (broken : Rule) → LossyBreaks s earlier d asked e (Message.Ack n) broken → ⊥
      by rule.WrongKind b = right_ack e asked.side n (gets s apart (d ∷ earlier) k e n told ∙ ap receiver_of side_is) b
      by (rule.Block EndRule.AckAhead) b = unexplained (oacked_ack s apart (d ∷ earlier) k e n told) b.1
      by (rule.Block EndRule.AckZero) b = unexplained (oacked_ack s apart (d ∷ earlier) k e n told) b.1
      by _ b = absurd b

    each_kind : (e : End) (n : Message) → IsSaidBy s e n d → (broken : Rule) → LossyBreaks s earlier d asked e n broken → ⊥
    each_kind e (Message.Request now) said broken b = requests e now said broken b
    each_kind e (Message.Error code text) said broken b = errors e code text said broken b
    each_kind e (Message.Oack options) said broken b = oacks e options said broken b
    each_kind e (Message.Data n bytes) said broken b = blocks e n bytes said broken b
    each_kind e (Message.Ack n) said broken b = acks e n said broken b

  each_way : (broken : Rule) → LossyBroken s earlier d broken → ⊥
  each_way broken (inl b) = sides broken b
  each_way broken (inr (inl b)) = malformed broken b
  each_way broken (inr (inr b)) = each_kind b.asked b.request b.end b.message b.says broken b.breaks

pub broken_is_certain : (s : TapSides) (earlier : List TapDatagram) (d : TapDatagram) (broken : Rule) → AreApart s → LossyBroken s earlier d broken → IsCertainBetween s earlier d
broken_is_certain s earlier d broken apart b = λ lossy. each_way s apart earlier d lossy broken b

-- ---- what is lawful breaks none of them

main_read : (e : End) (p : MachinePacket) (d : TapDatagram) → says_some p d.payload → IsTapRead (pass_route e p) d
main_read Client Req d says = (says.0, says.1)
main_read Client Oack d says = (says.0, says.1)
main_read Client (Data k) d says = (says.0, says.1)
main_read Client (Ack k) d says = (says.0, says.1)
main_read Client (Error c t) d says = (says.0, says.1)
main_read Server p d says = (says.0, says.1)

label_read : (s : TapSides) (earlier : TapDivision) (d : TapDatagram) (l : TapLabel) → HasTapLabel s says_some earlier d l → IsTapRead (label_route l) d
label_read s earlier d (Main x) c = main_read x.from x.packet d c.spells
label_read s earlier d Stray c = tt
label_read s earlier d StrayAnswer c = c.spells

pub lawful_breaks_none : (s : TapSides) (tapped : List TapDatagram) → AreApart s → IsLawfulBetweenWithLosses s tapped → BreaksNoLossyRule s tapped
lawful_breaks_none s [] apart lossy = tt
lawful_breaks_none s (d ∷ earlier) apart lossy =
    let l = label_at s apart (d ∷ earlier) lossy d (contains_first d earlier) in (
      record {
        read = subst (λ r. IsTapRead r d) (sym l.route) (label_read s l.earlier d l.label l.has);
        lawful = λ broken b. each_way s apart earlier d lossy broken b;
      },
      lawful_breaks_none s earlier apart (less_between_lossy s (d ∷ earlier) earlier (lost d earlier earlier (loses_none earlier)) lossy),
    )
