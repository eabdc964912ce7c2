-- A classic recording says of no packet that it was lost.
use Rattle.std.proofs.Common.{◌≡◌, ℕ, ◌+◌, true, false, List, [], ◌∷◌, ◌++◌, length, take, refl, sym, ap, ◌∙◌, subst, append_assoc, append-nil, arith, flat_map}
use Rattle.net_streams.specs.{Failed, Open, Over, Standing}
use Rattle.net_pcap.specs.{FrameParts, Said, Says, Mode, Follows, Stands, BeginsAsClassic, NamedInterface, Order, Layout, Unopened, PcapFault, ReaderState, StandingTells, capped, changed, lost_in, lost_of, magic, may_lose, next_mode, section_type, start, with_missed}
use Rattle.net_pcap.specs.Pieces.Said.{Opens, Names, Gives, Counts, Skips}
use Rattle.net_pcap.specs.declared.layout.Classic.{Classic as Header}
use Rattle.net_pcap.specs.declared.layout.Layout.TheVariants.{Classic, Blocks}
use Rattle.net_pcap.proofs.Announced.{magic_other}
use Rattle.net_pcap.proofs.OneFrame.{magic_length}
use Rattle.net_pcap.proofs.OneReading.{header_magic}
use Rattle.net_pcap.proofs.Whole.{section_known}

-- ---- the first bytes

take_more : (bytes more first : List ℕ) → length first ≡ 4 → take 4 bytes ≡ first → take 4 (bytes ++ more) ≡ first
take_more (w ∷ x ∷ y ∷ z ∷ rest) more first sized is = is
take_more (w ∷ x ∷ y ∷ []) more first sized is = absurd (omega (arith, ap length is, sized))
take_more (w ∷ x ∷ []) more first sized is = absurd (omega (arith, ap length is, sized))
take_more (w ∷ []) more first sized is = absurd (omega (arith, ap length is, sized))
take_more [] more first sized is = absurd (omega (arith, ap length is, sized))

pub more_classic : (bytes more : List ℕ) → BeginsAsClassic bytes → BeginsAsClassic (bytes ++ more)
more_classic bytes more (order, nano, is) = (order, nano, take_more bytes more (magic order nano) (magic_length order nano) is)

-- ---- records

record IsLossless (mode : Mode) : Type 0 where
  quiet : may_lose mode.layout ≡ false
  before : mode.before ≡ 0
  interfaces : mode.interfaces ≡ []

gives : (layout : Layout) (interfaces : List NamedInterface) (piece : List ℕ) (said : Said) → may_lose layout ≡ false → Says layout interfaces piece said → (frame : FrameParts) × (said ≡ Gives frame)
gives Unopened interfaces piece said quiet says = absurd (let x : ⊥ = cc in x)
gives (Blocks order) interfaces piece said quiet says = absurd (let x : ⊥ = cc in x)
gives (Classic classic) interfaces piece (Gives frame) quiet says = (frame, refl)
gives (Classic classic) interfaces piece _ quiet says = absurd says

one_more : (mode : Mode) (frame : FrameParts) → IsLossless mode → IsLossless (next_mode mode (Gives frame))
one_more mode frame is = record { quiet = is.quiet; before = is.before; interfaces = ap (changed (with_missed frame.missed) frame.interface) is.interfaces }

stays : (mode end : Mode) (pieces : List (List ℕ)) (frames : List FrameParts) → IsLossless mode → Follows mode pieces end frames → IsLossless end
stays mode end [] frames is (e, none) = subst IsLossless (sym e) is
stays mode end (piece ∷ pieces) frames is (said, rest, says, given_is, follows) =
    let (frame, gave) = gives mode.layout mode.interfaces piece said is.quiet says in
    stays (next_mode mode said) end pieces rest (subst (λ s. IsLossless (next_mode mode s)) (sym gave) (one_more mode frame is)) follows

-- ---- blocks

abbrev HasBlocks : Mode → Type 0
HasBlocks mode = (order : Order) × (mode.layout ≡ Blocks order)

again : (mode : Mode) (order : Order) (interfaces : List NamedInterface) (piece : List ℕ) (said : Said) → mode.layout ≡ Blocks order → Says (Blocks order) interfaces piece said → HasBlocks (next_mode mode said)
again mode order interfaces piece (Opens Unopened) is says = absurd says
again mode order interfaces piece (Opens (Classic classic)) is says = absurd says
again mode order interfaces piece (Opens (Blocks own)) is says = (own, refl)
again mode order interfaces piece (Names interface) is says = (order, is)
again mode order interfaces piece (Gives frame) is says = (order, is)
again mode order interfaces piece (Counts dropped) is says = (order, is)
again mode order interfaces piece Skips is says = (order, is)

goes_on : (mode end : Mode) (pieces : List (List ℕ)) (frames : List FrameParts) → HasBlocks mode → Follows mode pieces end frames → HasBlocks end
goes_on mode end [] frames is (e, none) = subst HasBlocks (sym e) is
goes_on mode end (piece ∷ pieces) frames (order, is) (said, rest, says, given_is, follows) =
    goes_on (next_mode mode said) end pieces rest (again mode order mode.interfaces piece said is (subst (λ l. Says l mode.interfaces piece said) is says)) follows

-- ---- all the pieces

none_lost : (mode : Mode) → IsLossless mode → lost_of mode ≡ 0
none_lost mode is = λ i. capped (is.before i + lost_in (is.interfaces i))

opens_classic : (classic : Header) → IsLossless (next_mode start (Opens (Classic classic)))
opens_classic classic = record { quiet = refl; before = refl; interfaces = refl }

loud : (mode : Mode) → HasBlocks mode → may_lose mode.layout ≡ false → ⊥
loud mode (order, is) quiet = let here : may_lose mode.layout ≡ true = ap may_lose is in cc

module _ (bytes : List ℕ) (mode : Mode) (frames : List FrameParts) where
  is_classic : (pieces : List (List ℕ)) → bytes ≡ flat_map (λ piece. piece) pieces → Follows start pieces mode frames → may_lose mode.layout ≡ false → BeginsAsClassic bytes
  is_classic [] are (e, none) quiet = let here : may_lose mode.layout ≡ true = ap (λ (m : Mode). may_lose m.layout) e in absurd (let x : ⊥ = cc in x)
  is_classic (piece ∷ pieces) are (Opens (Classic classic), rest, says, given_is, follows) quiet =
      subst BeginsAsClassic (sym are) (more_classic piece (flat_map (λ p. p) pieces) (classic.order, classic.nano, header_magic piece classic says))
  is_classic (piece ∷ pieces) are (Opens (Blocks order), rest, says, given_is, follows) quiet =
      absurd (loud mode (goes_on (next_mode start (Opens (Blocks order))) mode pieces rest (order, refl) follows) quiet)
  is_classic (piece ∷ pieces) are (Opens Unopened, rest, says, given_is, follows) quiet = absurd says
  is_classic (piece ∷ pieces) are (Names interface, rest, says, given_is, follows) quiet = absurd says
  is_classic (piece ∷ pieces) are (Gives frame, rest, says, given_is, follows) quiet = absurd says
  is_classic (piece ∷ pieces) are (Counts dropped, rest, says, given_is, follows) quiet = absurd says
  is_classic (piece ∷ pieces) are (Skips, rest, says, given_is, follows) quiet = absurd says

  loses_none : (part : List ℕ) (pieces : List (List ℕ)) → bytes ≡ flat_map (λ piece. piece) pieces → Follows start pieces mode frames → BeginsAsClassic (bytes ++ part) → lost_of mode ≡ 0
  loses_none part [] are (e, none) classic = ap lost_of e
  loses_none part (piece ∷ pieces) are (Opens (Classic classic), rest, says, given_is, follows) begins =
      none_lost mode (stays (next_mode start (Opens (Classic classic))) mode pieces rest (opens_classic classic) follows)
  loses_none part (piece ∷ pieces) are (Opens (Blocks order), rest, says, given_is, follows) (own, nano, begins) =
      let more = flat_map (λ p. p) pieces in
      let whole : bytes ++ part ≡ piece ++ (more ++ part) = ap (λ l. l ++ part) are ∙ append_assoc piece more part in
      let section : take 4 (bytes ++ part) ≡ section_type = ap (take 4) whole ∙ (section_known piece (more ++ part) order says).0 in
      absurd (magic_other own nano (sym begins ∙ section))
  loses_none part (piece ∷ pieces) are (Opens Unopened, rest, says, given_is, follows) begins = absurd says
  loses_none part (piece ∷ pieces) are (Names interface, rest, says, given_is, follows) begins = absurd says
  loses_none part (piece ∷ pieces) are (Gives frame, rest, says, given_is, follows) begins = absurd says
  loses_none part (piece ∷ pieces) are (Counts dropped, rest, says, given_is, follows) begins = absurd says
  loses_none part (piece ∷ pieces) are (Skips, rest, says, given_is, follows) begins = absurd says

-- ---- a reader, however it stands

-- the whole pieces that it took, after which it knows what it does, and what it took behind them
record HasTaken (mode : Mode) (bytes : List ℕ) (frames : List FrameParts) : Type 0 where
  good : List ℕ
  part : List ℕ
  count : ℕ
  are : bytes ≡ good ++ part
  stands : Stands good mode count frames

taken : (standing : Standing PcapFault) (reader : ReaderState) (bytes : List ℕ) (frames : List FrameParts) → StandingTells standing reader bytes frames → HasTaken reader.pieces.mode bytes frames
taken Open reader bytes frames (stands, counted) = record { good = bytes; part = []; count = reader.pieces.count; are = sym (append-nil bytes); stands = stands }
taken Over reader bytes frames (is, known) =
    record { good = bytes; part = []; count = is.count; are = sym (append-nil bytes); stands = subst (λ (m : Mode). Stands bytes m is.count frames) known is.stands }
taken (Failed fault) reader bytes frames (failed, known) =
    record { good = failed.fails.good; part = failed.fails.part; count = failed.fails.count; are = failed.fails.are; stands = subst (λ (m : Mode). Stands failed.fails.good m failed.fails.count frames) known failed.fails.stands }

module _ (reader : ReaderState) (bytes : List ℕ) (frames : List FrameParts) (tells : StandingTells reader.standing reader bytes frames) where
  has : HasTaken reader.pieces.mode bytes frames
  has = taken reader.standing reader bytes frames tells

  pub begins_as_classic : may_lose reader.pieces.mode.layout ≡ false → BeginsAsClassic bytes
  begins_as_classic quiet = subst BeginsAsClassic (sym has.are) (more_classic has.good has.part (is_classic has.good reader.pieces.mode frames has.stands.pieces has.stands.are has.stands.follows quiet))

  pub classic_loses_none : BeginsAsClassic bytes → lost_of reader.pieces.mode ≡ 0
  classic_loses_none classic = loses_none has.good reader.pieces.mode frames has.part has.stands.pieces has.stands.are has.stands.follows (subst BeginsAsClassic has.are classic)
