-- Bytes are a recording in one way.
use Rattle.std.proofs.Common.{◌≡◌, inl, inr, ℕ, ◌+◌, ◌%◌, ◌<◌, ◌≤◌, List, [], ◌∷◌, ◌++◌, length, length-append, take, refl, sym, ap, ◌∙◌, subst, append_assoc, append-nil, arith, flat_map}
use Rattle.std.specs.List.{slice_range}
use Rattle.net_pcap.specs.{number_at, Spells, FrameParts, magic, major, SpellsHeader, SpellsRecord, SpellsSection, Said, Says, BodySays, BlockSays, OpensAs, OpensAgain, Mode, Announces, BeginsAsOne, IsSize, Follows, IsRecording, next_mode, given, start, IsIrregular, IsTooLong, IsPart, Stops, FailsAs, IsWrong, FaultKind, NotARecording, Truncated, Bad, TooLong, TooMany, Read, Memory, Order, NamedInterface, Layout, Unopened}
use Rattle.net_pcap.specs.Pieces.Said.{Opens, Names, Gives, Counts, Skips}
use Rattle.net_pcap.specs.declared.layout.Classic.{Classic as Header}
use Rattle.net_pcap.specs.declared.layout.Layout.TheVariants.{Classic, Blocks}
use Rattle.net_pcap.proofs.Cuts.{cut_one}
use Rattle.net_pcap.proofs.Fours.{spells_length}
use Rattle.net_pcap.proofs.Announced.{order_one, magic_other}
use Rattle.net_pcap.proofs.Fronts.{announces_more, announces_one, announces_enough, begins_of, front_some, short_is_part}
use Rattle.net_pcap.proofs.Whole.{block_known, section_known, body_of, body_says}
use Rattle.net_pcap.proofs.Statistics.{statistics_one}
use Rattle.net_pcap.proofs.OneFrame.{magic_length, major_length, header_one, record_one, interface_one, packet_one}

-- ---- a piece announces its own length

header_length : (s : List ℕ) (classic : Header) → SpellsHeader s classic → length s ≡ 24
header_length s classic p =
    omega (
      arith,
      ap length p.are,
      length-append (magic classic.order classic.nano) (major classic.order ++ (p.minor ++ p.rest)),
      length-append (major classic.order) (p.minor ++ p.rest),
      length-append p.minor p.rest,
      magic_length classic.order classic.nano,
      major_length classic.order,
      p.two,
      spells_length classic.order p.rest (p.zone ∷ p.figures ∷ p.longest ∷ p.link ∷ []) p.numbers,
    )

pub header_magic : (s : List ℕ) (classic : Header) → SpellsHeader s classic → take 4 s ≡ magic classic.order classic.nano
header_magic s classic p = ap (take 4) p.are ∙ whole (magic classic.order classic.nano) _ (magic_length classic.order classic.nano)
  where
    whole : (a b : List ℕ) → length a ≡ 4 → take 4 (a ++ b) ≡ a
    whole (w ∷ x ∷ y ∷ z ∷ []) b sized = refl
    whole _ b sized = absurd (omega arith)

header_announced : (s : List ℕ) (classic : Header) → SpellsHeader s classic → Announces Unopened s (length s)
header_announced s classic p = let long = header_length s classic p in (omega (arith, long), inr (classic.order, classic.nano, header_magic s classic p, long))

section_announced : (s : List ℕ) (order : Order) → SpellsSection s order → Announces Unopened s (length s)
section_announced s order p =
    let known = section_known s [] order p in
    let none = append-nil s in
    (omega (arith, known.4), inl (ap (take 4) (sym none) ∙ known.0, order, ap (λ l. slice_range l 8 12) (sym none) ∙ known.1, known.2 ∙ ap (λ l. number_at order l 4) none))

again_announced : (own : Order) (s : List ℕ) (order : Order) → SpellsSection s order → Announces (Blocks own) s (length s)
again_announced own s order p =
    let known = section_known s [] order p in
    let none = append-nil s in
    (omega (arith, known.4), inl (ap (take 4) (sym none) ∙ known.0, order, ap (λ l. slice_range l 8 12) (sym none) ∙ known.1, known.2 ∙ ap (λ l. number_at order l 4) none))

block_announced : (order : Order) (interfaces : List NamedInterface) (s : List ℕ) (said : Said) → BlockSays order interfaces s said → Announces (Blocks order) s (length s)
block_announced order interfaces s said (type, body, kind, block, plain, typed, says) =
    let known = block_known order s type body block in
    (known.4, inr ((λ e. plain (known.0 ∙ e)), known.2))

record_announced : (classic : Header) (s : List ℕ) (frame : FrameParts) → SpellsRecord classic s frame → Announces (Classic classic) s (length s)
record_announced classic s frame p = go p.head p.numbers p.are
  where
    go : (head : List ℕ) → Spells classic.order head (p.seconds ∷ p.fraction ∷ length frame.bytes ∷ frame.original ∷ []) → s ≡ head ++ frame.bytes → (16 ≤ length s) × (length s ≡ 16 + number_at classic.order s 8)
    go head (a0, a1, a2, a3, r0, e0, i0, (b0, b1, b2, b3, r1, e1, i1, (c0, c1, c2, c3, r2, e2, i2, (d0, d1, d2, d3, r3, e3, i3, e4)))) are =
        let front : head ≡ a0 ∷ a1 ∷ a2 ∷ a3 ∷ b0 ∷ b1 ∷ b2 ∷ b3 ∷ c0 ∷ c1 ∷ c2 ∷ c3 ∷ d0 ∷ d1 ∷ d2 ∷ d3 ∷ [] =
        e0 ∙ ap (λ r. a0 ∷ a1 ∷ a2 ∷ a3 ∷ r) (e1 ∙ ap (λ r. b0 ∷ b1 ∷ b2 ∷ b3 ∷ r) (e2 ∙ ap (λ r. c0 ∷ c1 ∷ c2 ∷ c3 ∷ r) (e3 ∙ ap (λ r. d0 ∷ d1 ∷ d2 ∷ d3 ∷ r) e4))) in
        let path : s ≡ a0 ∷ a1 ∷ a2 ∷ a3 ∷ b0 ∷ b1 ∷ b2 ∷ b3 ∷ c0 ∷ c1 ∷ c2 ∷ c3 ∷ d0 ∷ d1 ∷ d2 ∷ d3 ∷ frame.bytes = are ∙ ap (λ l. l ++ frame.bytes) front in
        let captured : length frame.bytes ≡ number_at classic.order s 8 = i2 ∙ ap (λ l. number_at classic.order l 8) (sym path) in
        (omega (arith, ap length path), omega (arith, ap length path, captured))

pub says_announced : (layout : Layout) (interfaces : List NamedInterface) (s : List ℕ) (said : Said) → Says layout interfaces s said → Announces layout s (length s)
says_announced Unopened interfaces s (Opens (Classic classic)) says = header_announced s classic says
says_announced Unopened interfaces s (Opens (Blocks order)) says = section_announced s order says
says_announced (Classic classic) interfaces s (Gives frame) says = record_announced classic s frame says
says_announced (Blocks own) interfaces s (Opens (Blocks order)) says = again_announced own s order says
says_announced (Blocks own) interfaces s (Names interface) says = block_announced own interfaces s (Names interface) says
says_announced (Blocks own) interfaces s (Gives frame) says = block_announced own interfaces s (Gives frame) says
says_announced (Blocks own) interfaces s (Counts d) says = block_announced own interfaces s (Counts d) says
says_announced (Blocks own) interfaces s Skips says = block_announced own interfaces s Skips says
says_announced _ interfaces s _ says = absurd says

-- so of two pieces in front of some bytes each is the other
pub piece_one : (layout : Layout) (interfaces : List NamedInterface) (p q more rest : List ℕ) (s t : Said) → Says layout interfaces p s → Says layout interfaces q t → p ++ more ≡ q ++ rest → (p ≡ q) × (more ≡ rest)
piece_one layout interfaces p q more rest s t a b e =
    let one = announces_more layout p more (length p) (says_announced layout interfaces p s a) in
    let other = announces_more layout q rest (length q) (says_announced layout interfaces q t b) in
    let sized : length p ≡ length q = announces_one layout (q ++ rest) _ _ (subst (λ (l : List ℕ). Announces layout l (length p)) e one) other in
    cut_one p q more rest sized e

-- ---- a piece says one thing

section_is_one : (s : List ℕ) (o p : Order) → SpellsSection s o → SpellsSection s p → o ≡ p
section_is_one s o p x y = order_one o p (sym (section_known s [] o x).1 ∙ (section_known s [] p y).1)

header_or_section : (s : List ℕ) (classic : Header) (order : Order) → SpellsHeader s classic → SpellsSection s order → ⊥
header_or_section s classic order x y = magic_other classic.order classic.nano (sym (header_magic s classic x) ∙ ap (take 4) (sym (append-nil s)) ∙ (section_known s [] order y).0)

opens_one : (s : List ℕ) (l m : Layout) → OpensAs s l → OpensAs s m → l ≡ m
opens_one s Unopened m x y = absurd x
opens_one s (Classic c) Unopened x y = absurd y
opens_one s (Classic c) (Classic d) x y = ap Classic (header_one s c d x y)
opens_one s (Classic c) (Blocks o) x y = absurd (header_or_section s c o x y)
opens_one s (Blocks o) Unopened x y = absurd y
opens_one s (Blocks o) (Classic d) x y = absurd (header_or_section s d o y x)
opens_one s (Blocks o) (Blocks p) x y = ap Blocks (section_is_one s o p x y)

again_one : (s : List ℕ) (l m : Layout) → OpensAgain s l → OpensAgain s m → l ≡ m
again_one s Unopened m x y = absurd x
again_one s (Classic c) m x y = absurd x
again_one s (Blocks o) Unopened x y = absurd y
again_one s (Blocks o) (Classic d) x y = absurd y
again_one s (Blocks o) (Blocks p) x y = ap Blocks (section_is_one s o p x y)

-- a section header is no other block
plain_section : (order own : Order) (interfaces : List NamedInterface) (s : List ℕ) (said : Said) → BlockSays order interfaces s said → SpellsSection s own → ⊥
plain_section order own interfaces s said (type, body, kind, block, plain, typed, says) x =
    plain ((block_known order s type body block).0 ∙ ap (take 4) (sym (append-nil s)) ∙ (section_known s [] own x).0)

again_or_block : (order : Order) (interfaces : List NamedInterface) (s : List ℕ) (layout : Layout) (said : Said) → OpensAgain s layout → BlockSays order interfaces s said → ⊥
again_or_block order interfaces s Unopened said x y = x
again_or_block order interfaces s (Classic classic) said x y = x
again_or_block order interfaces s (Blocks own) said x y = plain_section order own interfaces s said y x

bodies_one : (order : Order) (interfaces : List NamedInterface) (kind : ℕ) (body : List ℕ) (s t : Said) → BodySays order interfaces kind body s → BodySays order interfaces kind body t → s ≡ t
bodies_one order interfaces kind body (Opens l) t x y = absurd x
bodies_one order interfaces kind body (Names i) (Opens l) x y = absurd y
bodies_one order interfaces kind body (Names i) (Names j) x y = ap Names (interface_one order body i j x.1 y.1)
bodies_one order interfaces kind body (Names i) (Gives g) x (inl y) = absurd (omega (arith, x.0, y.0))
bodies_one order interfaces kind body (Names i) (Gives g) x (inr (inl y)) = absurd (omega (arith, x.0, y.0))
bodies_one order interfaces kind body (Names i) (Gives g) x (inr (inr y)) = absurd (omega (arith, x.0, y.0))
bodies_one order interfaces kind body (Names i) (Counts d) x y = absurd (omega (arith, x.0, y.0))
bodies_one order interfaces kind body (Names i) Skips x y = absurd (y.0 x.0)
bodies_one order interfaces kind body (Gives f) (Opens l) x y = absurd y
bodies_one order interfaces kind body (Gives f) (Names j) (inl x) y = absurd (omega (arith, x.0, y.0))
bodies_one order interfaces kind body (Gives f) (Names j) (inr (inl x)) y = absurd (omega (arith, x.0, y.0))
bodies_one order interfaces kind body (Gives f) (Names j) (inr (inr x)) y = absurd (omega (arith, x.0, y.0))
bodies_one order interfaces kind body (Gives f) (Gives g) x y = ap Gives (packet_one order interfaces kind body f g x y)
bodies_one order interfaces kind body (Gives f) (Counts d) (inl x) y = absurd (omega (arith, x.0, y.0))
bodies_one order interfaces kind body (Gives f) (Counts d) (inr (inl x)) y = absurd (omega (arith, x.0, y.0))
bodies_one order interfaces kind body (Gives f) (Counts d) (inr (inr x)) y = absurd (omega (arith, x.0, y.0))
bodies_one order interfaces kind body (Counts d) (Opens l) x y = absurd y
bodies_one order interfaces kind body (Counts d) (Names j) x y = absurd (omega (arith, x.0, y.0))
bodies_one order interfaces kind body (Counts d) (Gives g) x (inl y) = absurd (omega (arith, x.0, y.0))
bodies_one order interfaces kind body (Counts d) (Gives g) x (inr (inl y)) = absurd (omega (arith, x.0, y.0))
bodies_one order interfaces kind body (Counts d) (Gives g) x (inr (inr y)) = absurd (omega (arith, x.0, y.0))
bodies_one order interfaces kind body (Counts d) (Counts e) x y = ap Counts (statistics_one order interfaces body d e x.1 y.1)
bodies_one order interfaces kind body (Counts d) Skips x y = absurd (y.4 x.0)
bodies_one order interfaces kind body (Gives f) Skips (inl x) y = absurd (y.3 x.0)
bodies_one order interfaces kind body (Gives f) Skips (inr (inl x)) y = absurd (y.2 x.0)
bodies_one order interfaces kind body (Gives f) Skips (inr (inr x)) y = absurd (y.1 x.0)
bodies_one order interfaces kind body Skips (Opens l) x y = absurd y
bodies_one order interfaces kind body Skips (Names j) x y = absurd (x.0 y.0)
bodies_one order interfaces kind body Skips (Gives g) x (inl y) = absurd (x.3 y.0)
bodies_one order interfaces kind body Skips (Gives g) x (inr (inl y)) = absurd (x.2 y.0)
bodies_one order interfaces kind body Skips (Gives g) x (inr (inr y)) = absurd (x.1 y.0)
bodies_one order interfaces kind body Skips (Counts e) x y = absurd (x.4 y.0)
bodies_one order interfaces kind body Skips Skips x y = refl

blocks_one : (order : Order) (interfaces : List NamedInterface) (p : List ℕ) (s t : Said) → BlockSays order interfaces p s → BlockSays order interfaces p t → s ≡ t
blocks_one order interfaces p s t x y =
    bodies_one order interfaces (number_at order p 0) (body_of p) s t (body_says order interfaces p (number_at order p 0) refl s x).0 (body_says order interfaces p (number_at order p 0) refl t y).0

pub says_one : (layout : Layout) (interfaces : List NamedInterface) (p : List ℕ) (s t : Said) → Says layout interfaces p s → Says layout interfaces p t → s ≡ t
says_one Unopened interfaces p (Opens l) (Opens m) x y = ap Opens (opens_one p l m x y)
says_one Unopened interfaces p (Opens l) (Names j) x y = absurd y
says_one Unopened interfaces p (Opens l) (Gives g) x y = absurd y
says_one Unopened interfaces p (Opens l) (Counts e) x y = absurd y
says_one Unopened interfaces p (Opens l) Skips x y = absurd y
says_one Unopened interfaces p (Names i) t x y = absurd x
says_one Unopened interfaces p (Gives f) t x y = absurd x
says_one Unopened interfaces p (Counts d) t x y = absurd x
says_one Unopened interfaces p Skips t x y = absurd x
says_one (Classic classic) interfaces p (Gives f) (Gives g) x y = ap Gives (record_one classic p f g x y)
says_one (Classic classic) interfaces p (Gives f) (Opens m) x y = absurd y
says_one (Classic classic) interfaces p (Gives f) (Names j) x y = absurd y
says_one (Classic classic) interfaces p (Gives f) (Counts e) x y = absurd y
says_one (Classic classic) interfaces p (Gives f) Skips x y = absurd y
says_one (Classic classic) interfaces p (Opens l) t x y = absurd x
says_one (Classic classic) interfaces p (Names i) t x y = absurd x
says_one (Classic classic) interfaces p (Counts d) t x y = absurd x
says_one (Classic classic) interfaces p Skips t x y = absurd x
says_one (Blocks order) interfaces p (Opens l) (Opens m) x y = ap Opens (again_one p l m x y)
says_one (Blocks order) interfaces p (Opens l) (Names j) x y = absurd (again_or_block order interfaces p l (Names j) x y)
says_one (Blocks order) interfaces p (Opens l) (Gives g) x y = absurd (again_or_block order interfaces p l (Gives g) x y)
says_one (Blocks order) interfaces p (Opens l) (Counts e) x y = absurd (again_or_block order interfaces p l (Counts e) x y)
says_one (Blocks order) interfaces p (Opens l) Skips x y = absurd (again_or_block order interfaces p l Skips x y)
says_one (Blocks order) interfaces p (Names i) (Opens m) x y = absurd (again_or_block order interfaces p m (Names i) y x)
says_one (Blocks order) interfaces p (Gives f) (Opens m) x y = absurd (again_or_block order interfaces p m (Gives f) y x)
says_one (Blocks order) interfaces p (Counts d) (Opens m) x y = absurd (again_or_block order interfaces p m (Counts d) y x)
says_one (Blocks order) interfaces p Skips (Opens m) x y = absurd (again_or_block order interfaces p m Skips y x)
says_one (Blocks order) interfaces p (Names i) (Names j) x y = blocks_one order interfaces p (Names i) (Names j) x y
says_one (Blocks order) interfaces p (Names i) (Gives g) x y = blocks_one order interfaces p (Names i) (Gives g) x y
says_one (Blocks order) interfaces p (Names i) Skips x y = blocks_one order interfaces p (Names i) Skips x y
says_one (Blocks order) interfaces p (Gives f) (Names j) x y = blocks_one order interfaces p (Gives f) (Names j) x y
says_one (Blocks order) interfaces p (Gives f) (Gives g) x y = blocks_one order interfaces p (Gives f) (Gives g) x y
says_one (Blocks order) interfaces p (Gives f) Skips x y = blocks_one order interfaces p (Gives f) Skips x y
says_one (Blocks order) interfaces p (Names i) (Counts e) x y = blocks_one order interfaces p (Names i) (Counts e) x y
says_one (Blocks order) interfaces p (Gives f) (Counts e) x y = blocks_one order interfaces p (Gives f) (Counts e) x y
says_one (Blocks order) interfaces p Skips (Counts e) x y = blocks_one order interfaces p Skips (Counts e) x y
says_one (Blocks order) interfaces p (Counts d) (Names j) x y = blocks_one order interfaces p (Counts d) (Names j) x y
says_one (Blocks order) interfaces p (Counts d) (Gives g) x y = blocks_one order interfaces p (Counts d) (Gives g) x y
says_one (Blocks order) interfaces p (Counts d) (Counts e) x y = blocks_one order interfaces p (Counts d) (Counts e) x y
says_one (Blocks order) interfaces p (Counts d) Skips x y = blocks_one order interfaces p (Counts d) Skips x y
says_one (Blocks order) interfaces p Skips (Names j) x y = blocks_one order interfaces p Skips (Names j) x y
says_one (Blocks order) interfaces p Skips (Gives g) x y = blocks_one order interfaces p Skips (Gives g) x y
says_one (Blocks order) interfaces p Skips Skips x y = refl

-- ---- so pieces after one another lead to one mode and give one list of frames

piece_some : (layout : Layout) (interfaces : List NamedInterface) (p : List ℕ) (s : Said) → Says layout interfaces p s → 0 < length p
piece_some layout interfaces p s says = some layout (says_announced layout interfaces p s says)
  where
    some : (l : Layout) → Announces l p (length p) → 0 < length p
    some Unopened a = omega (arith, a.0)
    some _ a = omega (arith, a.0)

pub follows_one : (mode : Mode) (ps qs : List (List ℕ)) (one other : Mode) (fs gs : List FrameParts) → Follows mode ps one fs → Follows mode qs other gs → flat_map (λ p. p) ps ≡ flat_map (λ q. q) qs → (one ≡ other) × (fs ≡ gs)
follows_one mode [] [] one other fs gs (a, x) (b, y) e = (a ∙ sym b, x ∙ sym y)
follows_one mode [] (q ∷ qs) one other fs gs a (t, gs', says, are, more) e = absurd (omega (arith, ap length e, length-append q (flat_map (λ x. x) qs), piece_some mode.layout mode.interfaces q t says))
follows_one mode (p ∷ ps) [] one other fs gs (s, fs', says, are, more) b e = absurd (omega (arith, ap length e, length-append p (flat_map (λ x. x) ps), piece_some mode.layout mode.interfaces p s says))
follows_one mode (p ∷ ps) (q ∷ qs) one other fs gs (s, fs', says, are, more) (t, gs', says', are', more') e =
    let same = piece_one mode.layout mode.interfaces p q (flat_map (λ x. x) ps) (flat_map (λ x. x) qs) s t says says' e in
    let said = says_one mode.layout mode.interfaces q s t (subst (λ (l : List ℕ). Says mode.layout mode.interfaces l s) same.0 says) says' in
    let rest = follows_one (next_mode mode t) ps qs one other fs' gs' (subst (λ (x : Said). Follows (next_mode mode x) ps one fs') said more) more' same.1 in
    (rest.0, are ∙ (λ i. given (said i) ++ rest.1 i) ∙ sym are')

pub recording_one : (bytes : List ℕ) (fs gs : List FrameParts) → IsRecording bytes fs → IsRecording bytes gs → fs ≡ gs
recording_one bytes fs gs p q = (follows_one start p.stands.pieces q.stands.pieces p.mode q.mode fs gs p.stands.follows q.stands.follows (sym p.stands.are ∙ q.stands.are)).1

-- ---- a fault is in no recording

-- pieces in front of more bytes are the first pieces of all of them
follows_front : (mode : Mode) (ps qs : List (List ℕ)) (one other : Mode) (fs gs : List FrameParts) (part : List ℕ) → Follows mode ps one fs → Follows mode qs other gs → flat_map (λ p. p) ps ++ part ≡ flat_map (λ q. q) qs
    → (rest : List (List ℕ)) × (more : List FrameParts) × Follows one rest other more × (flat_map (λ q. q) rest ≡ part) × (gs ≡ fs ++ more)
follows_front mode [] qs one other fs gs part (a, none) b e =
    (qs, gs, subst (λ (m : Mode). Follows m qs other gs) (sym a) b, sym e, ap (λ l. l ++ gs) (sym none))
follows_front mode (p ∷ ps) [] one other fs gs part (s, fs', says, are, more) b e =
    absurd (omega (arith, ap length e, length-append (p ++ flat_map (λ x. x) ps) part, length-append p (flat_map (λ x. x) ps), piece_some mode.layout mode.interfaces p s says))
follows_front mode (p ∷ ps) (q ∷ qs) one other fs gs part (s, fs', says, are, more) (t, gs', says', are', more') e =
    let same = piece_one mode.layout mode.interfaces p q (flat_map (λ x. x) ps ++ part) (flat_map (λ x. x) qs) s t says says' (sym (append_assoc p (flat_map (λ x. x) ps) part) ∙ e) in
    let said = says_one mode.layout mode.interfaces q s t (subst (λ (l : List ℕ). Says mode.layout mode.interfaces l s) same.0 says) says' in
    let (rest, later, goes, joined, grown) = follows_front (next_mode mode t) ps qs one other fs' gs' part (subst (λ (x : Said). Follows (next_mode mode x) ps one fs') said more) more' same.1 in
    (rest, later, goes, joined, are' ∙ ap (λ l. given t ++ l) grown ∙ sym (append_assoc (given t) fs' later) ∙ ap (λ l. l ++ later) (ap (λ x. given x ++ fs') (sym said) ∙ sym are))

-- a piece has a size that pieces have
says_sized : (layout : Layout) (interfaces : List NamedInterface) (s : List ℕ) (said : Said) → Says layout interfaces s said → IsSize layout (length s)
says_sized Unopened interfaces s (Opens Unopened) says = absurd says
says_sized Unopened interfaces s (Opens (Classic classic)) says = let long = header_length s classic says in (omega (arith, long), (omega (arith, long), ap (λ n. n % 4) long))
says_sized Unopened interfaces s (Opens (Blocks order)) says = (says.block.few, (omega (arith, (section_known s [] order says).4), says.block.words))
says_sized Unopened interfaces s (Names interface) says = absurd says
says_sized Unopened interfaces s (Gives frame) says = absurd says
says_sized Unopened interfaces s (Counts dropped) says = absurd says
says_sized Unopened interfaces s Skips says = absurd says
says_sized (Classic classic) interfaces s (Gives frame) says =
    let long : length s ≡ length says.head + length frame.bytes = ap length says.are ∙ length-append says.head frame.bytes in
    let head = spells_length classic.order says.head (says.seconds ∷ says.fraction ∷ length frame.bytes ∷ frame.original ∷ []) says.numbers in
    (omega (arith, long, head, says.few), omega (arith, long, head))
says_sized (Classic classic) interfaces s (Opens layout) says = absurd says
says_sized (Classic classic) interfaces s (Names interface) says = absurd says
says_sized (Classic classic) interfaces s (Counts dropped) says = absurd says
says_sized (Classic classic) interfaces s Skips says = absurd says
says_sized (Blocks own) interfaces s (Opens Unopened) says = absurd says
says_sized (Blocks own) interfaces s (Opens (Classic classic)) says = absurd says
says_sized (Blocks own) interfaces s (Opens (Blocks order)) says = (says.block.few, (omega (arith, (section_known s [] order says).4), says.block.words))
says_sized (Blocks own) interfaces s (Names interface) (type, body, kind, block, plain, typed, says) = (block.few, ((block_known own s type body block).4, block.words))
says_sized (Blocks own) interfaces s (Gives frame) (type, body, kind, block, plain, typed, says) = (block.few, ((block_known own s type body block).4, block.words))
says_sized (Blocks own) interfaces s (Counts dropped) (type, body, kind, block, plain, typed, says) = (block.few, ((block_known own s type body block).4, block.words))
says_sized (Blocks own) interfaces s Skips (type, body, kind, block, plain, typed, says) = (block.few, ((block_known own s type body block).4, block.words))

-- a piece in front of some bytes announces its size there
module _ (layout : Layout) (interfaces : List NamedInterface) (q rest part : List ℕ) (said : Said) (says : Says layout interfaces q said) (are : q ++ rest ≡ part) where
  announced_there : Announces layout part (length q)
  announced_there = subst (λ (l : List ℕ). Announces layout l (length q)) are (announces_more layout q rest (length q) (says_announced layout interfaces q said says))

  within : length q ≤ length part
  within = omega (arith, ap length are, length-append q rest)

  no_cut : IsPart layout part → ⊥
  no_cut short = omega (arith, short (length q) announced_there, within)

  no_irregular : IsIrregular layout part → ⊥
  no_irregular irregular = (irregular.1 (length q) announced_there).1 (says_sized layout interfaces q said says).1

  no_long : IsTooLong layout part → ⊥
  no_long (size, announced, long) = omega (arith, announces_one layout part (length q) size announced_there announced, long, (says_sized layout interfaces q said says).0)

  no_whole : Announces layout part (length part) → ((t : Said) → Says layout interfaces part t → ⊥) → ⊥
  no_whole announced never =
      let sized : length q ≡ length part = announces_one layout part (length q) (length part) announced_there announced in
      let same : q ≡ part = (cut_one q part rest [] sized (are ∙ sym (append-nil part))).0 in
      never said (subst (λ (l : List ℕ). Says layout interfaces l said) same says)

  no_text : layout ≡ Unopened → (BeginsAsOne part → ⊥) → ⊥
  no_text is never = never (begins_of layout part (length q) announced_there is)

-- no piece begins where a fault is
pub no_piece : (kind : FaultKind) (mode : Mode) (count : ℕ) (part q rest : List ℕ) (said : Said) → IsWrong kind → Stops kind mode count part → Says mode.layout mode.interfaces q said → q ++ rest ≡ part → ⊥
no_piece NotARecording mode count part q rest said wrong stops says are = no_text mode.layout mode.interfaces q rest part said says are stops.0 stops.1
no_piece Truncated mode count part q rest said wrong stops says are = no_cut mode.layout mode.interfaces q rest part said says are (short_is_part mode.layout part stops.0)
no_piece Bad mode count part q rest said wrong (inl stops) says are = no_irregular mode.layout mode.interfaces q rest part said says are stops
no_piece Bad mode count part q rest said wrong (inr stops) says are = no_whole mode.layout mode.interfaces q rest part said says are stops.0.0 stops.1
no_piece TooLong mode count part q rest said wrong stops says are = no_long mode.layout mode.interfaces q rest part said says are stops
no_piece TooMany mode count part q rest said wrong stops says are = wrong
no_piece Read mode count part q rest said wrong stops says are = wrong
no_piece Memory mode count part q rest said wrong stops says are = wrong

-- and something is there, or nothing was read yet
part_some : (kind : FaultKind) (mode : Mode) (count : ℕ) (part : List ℕ) → IsWrong kind → Stops kind mode count part → part ≡ [] → mode.layout ≡ Unopened
part_some NotARecording mode count part wrong stops none = stops.0
part_some Truncated mode count part wrong stops none = absurd (stops.1 none)
part_some Bad mode count part wrong (inl stops) none = absurd (omega (arith, ap length none, stops.0, front_some mode.layout))
part_some Bad mode count part wrong (inr stops) none = absurd (omega (arith, ap length none, announces_enough mode.layout part (length part) stops.0.0, front_some mode.layout))
part_some TooLong mode count part wrong (size, announced, long) none = absurd (omega (arith, ap length none, announces_enough mode.layout part size announced, front_some mode.layout))
part_some TooMany mode count part wrong stops none = absurd wrong
part_some Read mode count part wrong stops none = absurd wrong
part_some Memory mode count part wrong stops none = absurd wrong

pub fault_or_recording : (bytes : List ℕ) (fs gs : List FrameParts) (kind : FaultKind) → IsWrong kind → FailsAs bytes fs kind → IsRecording bytes gs → ⊥
fault_or_recording bytes fs gs kind wrong fails is =
    let (rest, more, goes, joined, grown) = follows_front start fails.stands.pieces is.stands.pieces fails.mode is.mode fs gs fails.part fails.stands.follows is.stands.follows (ap (λ l. l ++ fails.part) (sym fails.stands.are) ∙ sym fails.are ∙ is.stands.are) in
    last rest more goes joined
  where
    last : (rest : List (List ℕ)) (more : List FrameParts) → Follows fails.mode rest is.mode more → flat_map (λ q. q) rest ≡ fails.part → ⊥
    last [] more (same, none) joined = is.opened (ap (λ (m : Mode). m.layout) same ∙ part_some kind fails.mode fails.count fails.part wrong fails.rest (sym joined))
    last (q ∷ qs) more (said, later, says, are, goes) joined = no_piece kind fails.mode fails.count fails.part q (flat_map (λ x. x) qs) said wrong fails.rest says joined
