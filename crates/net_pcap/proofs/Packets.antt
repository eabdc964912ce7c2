-- Interfaces and packets, from the bytes at their places.
use Rattle.std.proofs.Common.{Bool, false, ◌≡◌, inl, inr, ℕ, ◌+◌, ◌-◌, ◌*◌, ◌/◌, ◌%◌, ◌<◌, ◌≤◌, ◌^◌, List, [], ◌∷◌, ◌++◌, length, length-append, take, drop, get_or, refl, sym, ap, ◌∙◌, subst, append_assoc, arith, Option, Some, None, slice_get, MatchOption}
use Rattle.std.specs.List.{slice_range}
use Rattle.net_pcap.specs.{Unknown, four, two, number_at, short_at, Spells, time_of, FrameParts, frame_at, longest_frame, Place, OptionParts, SpellsOptions, first_value, SpellsInterface, SpellsTimed, SpellsEnhanced, SpellsObsolete, SpellsSimple, SpellsPacket, kept, units_by, offset_by, direction_by, count_said, damaged_by, missed_by, Order, Interface, NamedInterface, Direction}
use Rattle.std.proofs.lemmas.List.{take-append-drop, length-take-le}
use Rattle.net_pcap.proofs.Cuts.{after, after_is_drop, drop_twice, three_parts, length-slice_range, cut_one, rounded}
use Rattle.net_pcap.proofs.Fours.{spells_one}
use Rattle.net_pcap.proofs.OptionCuts.{options_one}

pub interface_spelled : (order : Order) (s : List ℕ) (interface : Interface) (os ps : List OptionParts) → 8 ≤ length s
    → interface.link ≡ short_at order s 0 → interface.longest ≡ number_at order s 4
    → SpellsOptions order (after 8 s) os → SpellsOptions order (after 8 s) ps → interface.units ≡ units_by (first_value 9 1 os) → interface.offset ≡ offset_by order (first_value 14 8 ps)
    → SpellsInterface order s interface
interface_spelled order (b0 ∷ b1 ∷ b2 ∷ b3 ∷ b4 ∷ b5 ∷ b6 ∷ b7 ∷ u) interface os ps enough link longest first second units offset =
    let rest : after 8 (b0 ∷ b1 ∷ b2 ∷ b3 ∷ b4 ∷ b5 ∷ b6 ∷ b7 ∷ u) ≡ u = after_is_drop 8 (b0 ∷ b1 ∷ b2 ∷ b3 ∷ b4 ∷ b5 ∷ b6 ∷ b7 ∷ u) in
    let same = options_one order _ ps os second first in
    record {
      a = b0;
      b = b1;
      c = b2;
      d = b3;
      longest = b4 ∷ b5 ∷ b6 ∷ b7 ∷ [];
      options = u;
      said = os;
      are = refl;
      link = link;
      longest_is = (b4, b5, b6, b7, [], refl, longest, refl);
      options_are = subst (λ (l : List ℕ). SpellsOptions order l os) rest first;
      units = units;
      offset = offset ∙ ap (λ (l : List OptionParts). offset_by order (first_value 14 8 l)) same;
    }
interface_spelled order _ interface os ps enough link longest first second units offset = absurd (omega arith)

-- so many bytes and their padding
pub padded_one : (n k : ℕ) → k < 4 → (n + k) % 4 ≡ 0 → n + k ≡ (n + 3) / 4 * 4
padded_one n k few words = omega arith

-- ---- what follows the interface in a packet block

pub timed_spelled : (order : Order) (interface : NamedInterface) (count : Option ℕ) (s : List ℕ) (high low captured original : ℕ) (direction : Direction) (damaged : Bool) (missed : ℕ) (time : Option ℕ) (said drops : List OptionParts) (frame : FrameParts)
    → 20 ≤ length s → high ≡ number_at order s 4 → low ≡ number_at order s 8 → captured ≡ number_at order s 12 → original ≡ number_at order s 16
    → captured ≤ longest_frame → 20 + (captured + 3) / 4 * 4 ≤ length s
    → SpellsOptions order (after (20 + (captured + 3) / 4 * 4) s) said → SpellsOptions order (after (20 + (captured + 3) / 4 * 4) s) drops → direction ≡ direction_by order (first_value 2 4 said) → damaged ≡ damaged_by order (first_value 2 4 said) → missed ≡ missed_by order count (first_value 4 8 drops)
    → time ≡ time_of interface.described (high * 2 ^ 32 + low)
    → frame ≡ record { section = interface.section; interface = interface.number; link = interface.described.link; time = time; direction = direction; damaged = damaged; missed = missed; original = original; bytes = slice_range s 20 (20 + captured) }
    → SpellsTimed order interface count (drop 4 s) frame
timed_spelled order interface count (p0 ∷ p1 ∷ p2 ∷ p3 ∷ b0 ∷ b1 ∷ b2 ∷ b3 ∷ b4 ∷ b5 ∷ b6 ∷ b7 ∷ b8 ∷ b9 ∷ b10 ∷ b11 ∷ b12 ∷ b13 ∷ b14 ∷ b15 ∷ u) high low captured original direction damaged missed time said drops frame enough eh el ec eo few fits spelled again way error lost when is =
    let s = p0 ∷ p1 ∷ p2 ∷ p3 ∷ b0 ∷ b1 ∷ b2 ∷ b3 ∷ b4 ∷ b5 ∷ b6 ∷ b7 ∷ b8 ∷ b9 ∷ b10 ∷ b11 ∷ b12 ∷ b13 ∷ b14 ∷ b15 ∷ u in
    let padded = (captured + 3) / 4 * 4 in
    let round = rounded captured in
    let less : 20 + captured - 20 ≡ captured = omega arith in
    let bytes : frame.bytes ≡ take captured u = ap (λ (f : FrameParts). f.bytes) is ∙ ap (λ n. take n u) less in
    let long : length frame.bytes ≡ captured = ap length bytes ∙ length-take-le captured u (omega arith) in
    let pad : length (slice_range u captured padded) ≡ padded - captured = length-slice_range captured padded u (omega arith) in
    let rest : after (20 + padded) s ≡ drop padded u = after_is_drop (20 + padded) s ∙ sym (drop_twice padded 20 s) in
    let whole : u ≡ frame.bytes ++ (slice_range u captured padded ++ drop padded u) = three_parts captured padded u round.0 ∙ ap (λ l. l ++ (slice_range u captured padded ++ drop padded u)) (sym bytes) in
    record {
      high = high;
      low = low;
      front = b0 ∷ b1 ∷ b2 ∷ b3 ∷ b4 ∷ b5 ∷ b6 ∷ b7 ∷ b8 ∷ b9 ∷ b10 ∷ b11 ∷ b12 ∷ b13 ∷ b14 ∷ b15 ∷ [];
      padding = slice_range u captured padded;
      options = drop padded u;
      said = said;
      are = λ i. b0 ∷ b1 ∷ b2 ∷ b3 ∷ b4 ∷ b5 ∷ b6 ∷ b7 ∷ b8 ∷ b9 ∷ b10 ∷ b11 ∷ b12 ∷ b13 ∷ b14 ∷ b15 ∷ whole i;
      numbers = (b0, b1, b2, b3, _, refl, eh, (b4, b5, b6, b7, _, refl, el, (b8, b9, b10, b11, _, refl, long ∙ ec, (b12, b13, b14, b15, [], refl, ap (λ (f : FrameParts). f.original) is ∙ eo, refl))));
      padded = (omega (arith, pad, round.1), let e : length frame.bytes + length (slice_range u captured padded) ≡ padded = omega (arith, pad, long, round.0) in ap (λ n. n % 4) e ∙ round.2);
      options_are = subst (λ (l : List ℕ). SpellsOptions order l said) rest spelled;
      few = omega (arith, long, few);
      link = ap (λ (f : FrameParts). f.link) is;
      time = ap (λ (f : FrameParts). f.time) is ∙ when;
      direction = ap (λ (f : FrameParts). f.direction) is ∙ way;
      section = ap (λ (f : FrameParts). f.section) is;
      number = ap (λ (f : FrameParts). f.interface) is;
      damaged = ap (λ (f : FrameParts). f.damaged) is ∙ error;
      missed = ap (λ (f : FrameParts). f.missed) is ∙ lost ∙ ap (λ (l : List OptionParts). missed_by order count (first_value 4 8 l)) (options_one order _ drops said again spelled);
    }
timed_spelled order interface count _ high low captured original direction damaged missed time said drops frame enough eh el ec eo few fits spelled again way error lost when is = absurd (omega arith)

-- what a frame that is spelled says of the bytes: how many are captured, and where the options are
pub timed_known : (order : Order) (interface : NamedInterface) (count : Option ℕ) (s : List ℕ) (frame : FrameParts) → 20 ≤ length s → (spelled : SpellsTimed order interface count (drop 4 s) frame)
    → (length frame.bytes ≡ number_at order s 12) × (20 + (length frame.bytes + 3) / 4 * 4 ≤ length s) × (spelled.options ≡ after (20 + (length frame.bytes + 3) / 4 * 4) s)
timed_known order interface count (p0 ∷ p1 ∷ p2 ∷ p3 ∷ b0 ∷ b1 ∷ b2 ∷ b3 ∷ b4 ∷ b5 ∷ b6 ∷ b7 ∷ b8 ∷ b9 ∷ b10 ∷ b11 ∷ b12 ∷ b13 ∷ b14 ∷ b15 ∷ u) frame enough spelled =
    let s = p0 ∷ p1 ∷ p2 ∷ p3 ∷ b0 ∷ b1 ∷ b2 ∷ b3 ∷ b4 ∷ b5 ∷ b6 ∷ b7 ∷ b8 ∷ b9 ∷ b10 ∷ b11 ∷ b12 ∷ b13 ∷ b14 ∷ b15 ∷ u in
    let numbers = four order b0 b1 b2 b3 ∷ four order b4 b5 b6 b7 ∷ four order b8 b9 b10 b11 ∷ four order b12 b13 b14 b15 ∷ [] in
    let head : Spells order (b0 ∷ b1 ∷ b2 ∷ b3 ∷ b4 ∷ b5 ∷ b6 ∷ b7 ∷ b8 ∷ b9 ∷ b10 ∷ b11 ∷ b12 ∷ b13 ∷ b14 ∷ b15 ∷ []) numbers = (b0, b1, b2, b3, _, refl, refl, (b4, b5, b6, b7, _, refl, refl, (b8, b9, b10, b11, _, refl, refl, (b12, b13, b14, b15, [], refl, refl, refl)))) in
    let same = spells_one order spelled.front (b0 ∷ b1 ∷ b2 ∷ b3 ∷ b4 ∷ b5 ∷ b6 ∷ b7 ∷ b8 ∷ b9 ∷ b10 ∷ b11 ∷ b12 ∷ b13 ∷ b14 ∷ b15 ∷ []) (frame.bytes ++ (spelled.padding ++ spelled.options)) u (spelled.high ∷ spelled.low ∷ length frame.bytes ∷ frame.original ∷ []) numbers spelled.numbers head refl (sym spelled.are) in
    let size : length frame.bytes ≡ four order b8 b9 b10 b11 = ap (λ (l : List ℕ). get_or l 2 0) same.0 in
    let padded = padded_one (length frame.bytes) (length spelled.padding) spelled.padded.0 spelled.padded.1 in
    let lengths : length u ≡ length frame.bytes + (length spelled.padding + length spelled.options) =
    ap length (sym same.2) ∙ length-append frame.bytes (spelled.padding ++ spelled.options) ∙ ap (λ n. length frame.bytes + n) (length-append spelled.padding spelled.options) in
    let joined : (frame.bytes ++ spelled.padding) ++ spelled.options ≡ take ((length frame.bytes + 3) / 4 * 4) u ++ drop ((length frame.bytes + 3) / 4 * 4) u =
    append_assoc frame.bytes spelled.padding spelled.options ∙ same.2 ∙ sym (take-append-drop ((length frame.bytes + 3) / 4 * 4) u) in
    let cut = cut_one (frame.bytes ++ spelled.padding) (take ((length frame.bytes + 3) / 4 * 4) u) spelled.options _ (length-append frame.bytes spelled.padding ∙ padded ∙ sym (length-take-le ((length frame.bytes + 3) / 4 * 4) u (omega (arith, lengths, padded)))) joined in
    (size, omega (arith, lengths, padded), cut.1 ∙ drop_twice ((length frame.bytes + 3) / 4 * 4) 20 s ∙ sym (after_is_drop (20 + (length frame.bytes + 3) / 4 * 4) s))
timed_known order interface count _ frame enough spelled = absurd (omega arith)

timed_padded : (order : Order) (interface : NamedInterface) (count : Option ℕ) (s : List ℕ) (captured : ℕ) (frame : FrameParts) → 20 ≤ length s → captured ≡ number_at order s 12 → SpellsTimed order interface count (drop 4 s) frame
    → (captured + 3) / 4 * 4 ≡ (length frame.bytes + 3) / 4 * 4
timed_padded order interface count s captured frame enough is spelled = ap (λ n. (n + 3) / 4 * 4) (is ∙ sym (timed_known order interface count s frame enough spelled).0)

pub timed_short : (order : Order) (interface : NamedInterface) (count : Option ℕ) (s : List ℕ) (captured : ℕ) → 20 ≤ length s → captured ≡ number_at order s 12 → length s < 20 + (captured + 3) / 4 * 4
    → (frame : FrameParts) → SpellsTimed order interface count (drop 4 s) frame → ⊥
timed_short order interface count s captured enough is short frame spelled =
    let known = timed_known order interface count s frame enough spelled in
    let same = timed_padded order interface count s captured frame enough is spelled in
    omega (arith, known.1, same, short)

pub timed_wrong : (order : Order) (interface : NamedInterface) (count : Option ℕ) (s : List ℕ) (captured : ℕ) → 20 ≤ length s → captured ≡ number_at order s 12
    → ((os : List OptionParts) → SpellsOptions order (after (20 + (captured + 3) / 4 * 4) s) os → ⊥)
    → (frame : FrameParts) → SpellsTimed order interface count (drop 4 s) frame → ⊥
timed_wrong order interface count s captured enough is never frame spelled =
    let known = timed_known order interface count s frame enough spelled in
    let same = timed_padded order interface count s captured frame enough is spelled in
    let place : spelled.options ≡ after (20 + (captured + 3) / 4 * 4) s = known.2 ∙ ap (λ n. after (20 + n) s) (sym same) in
    never spelled.said (subst (λ (l : List ℕ). SpellsOptions order l spelled.said) place spelled.options_are)

-- ---- the three blocks of packets

some_one : {A : Type 0} (x y : A) → Some x ≡ Some y → x ≡ y
some_one x y e = cc

pub enhanced_spelled : (order : Order) (interfaces : List NamedInterface) (s : List ℕ) (place : ℕ) (interface : NamedInterface) (frame : FrameParts) → 20 ≤ length s → place ≡ number_at order s 0
    → slice_get interfaces place ≡ Some interface → SpellsTimed order interface None (drop 4 s) frame → SpellsEnhanced order interfaces s frame
enhanced_spelled order interfaces (a ∷ b ∷ c ∷ d ∷ t) place interface frame enough is named timed =
    record { place = place; front = a ∷ b ∷ c ∷ d ∷ []; rest = t; interface = interface; are = refl; place_is = (a, b, c, d, [], refl, is, refl); named = named; timed = timed }
enhanced_spelled order interfaces _ place interface frame enough is named timed = absurd (omega arith)

enhanced_place : (order : Order) (interfaces : List NamedInterface) (s : List ℕ) (frame : FrameParts) → 20 ≤ length s → (spelled : SpellsEnhanced order interfaces s frame) → (spelled.place ≡ number_at order s 0) × (spelled.rest ≡ drop 4 s)
enhanced_place order interfaces (a ∷ b ∷ c ∷ d ∷ t) frame enough spelled =
    let head : Spells order (a ∷ b ∷ c ∷ d ∷ []) (four order a b c d ∷ []) = (a, b, c, d, [], refl, refl, refl) in
    let same = spells_one order spelled.front (a ∷ b ∷ c ∷ d ∷ []) spelled.rest t (spelled.place ∷ []) (four order a b c d ∷ []) spelled.place_is head refl (sym spelled.are) in
    (ap (λ (l : List ℕ). get_or l 0 0) same.0, same.2)
enhanced_place order interfaces _ frame enough spelled = absurd (omega arith)

pub enhanced_timed : (order : Order) (interfaces : List NamedInterface) (s : List ℕ) (place : ℕ) (interface : NamedInterface) → 20 ≤ length s → place ≡ number_at order s 0
    → slice_get interfaces place ≡ Some interface → ((frame : FrameParts) → SpellsTimed order interface None (drop 4 s) frame → ⊥) → (frame : FrameParts) → SpellsEnhanced order interfaces s frame → ⊥
enhanced_timed order interfaces s place interface enough is named never frame spelled =
    let known = enhanced_place order interfaces s frame enough spelled in
    let same : spelled.interface ≡ interface = some_one _ _ (sym spelled.named ∙ ap (slice_get interfaces) (known.0 ∙ sym is) ∙ named) in
    never frame (subst (λ (l : List ℕ). SpellsTimed order interface None l frame) known.1 (subst (λ (i : NamedInterface). SpellsTimed order i None spelled.rest frame) same spelled.timed))

pub obsolete_spelled : (order : Order) (interfaces : List NamedInterface) (s : List ℕ) (place count : ℕ) (interface : NamedInterface) (frame : FrameParts) → 20 ≤ length s → place ≡ short_at order s 0 → count ≡ count_said (short_at order s 2)
    → slice_get interfaces place ≡ Some interface → SpellsTimed order interface (Some count) (drop 4 s) frame → SpellsObsolete order interfaces s frame
obsolete_spelled order interfaces (a ∷ b ∷ c ∷ d ∷ t) place count interface frame enough is said named timed =
    record { a = a; b = b; c = c; d = d; rest = t; interface = interface; are = refl; named = ap (slice_get interfaces) (sym is) ∙ named; timed = subst (λ (n : ℕ). SpellsTimed order interface (Some n) t frame) said timed }
obsolete_spelled order interfaces _ place count interface frame enough is said named timed = absurd (omega arith)

obsolete_place : (order : Order) (interfaces : List NamedInterface) (s : List ℕ) (frame : FrameParts) → 20 ≤ length s → (spelled : SpellsObsolete order interfaces s frame) → (two order spelled.a spelled.b ≡ short_at order s 0) × (spelled.rest ≡ drop 4 s) × (two order spelled.c spelled.d ≡ short_at order s 2)
obsolete_place order interfaces (a ∷ b ∷ c ∷ d ∷ t) frame enough spelled =
    let e = sym spelled.are in
    let ea : spelled.a ≡ a = cc in
    let eb : spelled.b ≡ b = cc in
    let ec : spelled.c ≡ c = cc in
    let ed : spelled.d ≡ d = cc in
    let rest : spelled.rest ≡ t = cc in
    (λ i. two order (ea i) (eb i), rest, λ i. two order (ec i) (ed i))
obsolete_place order interfaces _ frame enough spelled = absurd (omega arith)

pub obsolete_timed : (order : Order) (interfaces : List NamedInterface) (s : List ℕ) (place count : ℕ) (interface : NamedInterface) → 20 ≤ length s → place ≡ short_at order s 0 → count ≡ count_said (short_at order s 2)
    → slice_get interfaces place ≡ Some interface → ((frame : FrameParts) → SpellsTimed order interface (Some count) (drop 4 s) frame → ⊥) → (frame : FrameParts) → SpellsObsolete order interfaces s frame → ⊥
obsolete_timed order interfaces s place count interface enough is said named never frame spelled =
    let known = obsolete_place order interfaces s frame enough spelled in
    let same : spelled.interface ≡ interface = some_one _ _ (sym spelled.named ∙ ap (slice_get interfaces) (known.0 ∙ sym is) ∙ named) in
    let counted : count_said (two order spelled.c spelled.d) ≡ count = ap count_said known.2 ∙ sym said in
    never frame (subst (λ (l : List ℕ). SpellsTimed order interface (Some count) l frame) known.1 (subst (λ (n : ℕ). SpellsTimed order interface (Some n) spelled.rest frame) counted (subst (λ (i : NamedInterface). SpellsTimed order i (Some (count_said (two order spelled.c spelled.d))) spelled.rest frame) same spelled.timed)))

-- an answer of one function, made that of another
pub answer_of : {X : Type 0} (r : Option X) (A B : Type 0) (P Q : X → Type 0) → (A → B) → ((x : X) → P x → Q x) → MatchOption r A P → MatchOption r B Q
answer_of None A B P Q f g m = f m
answer_of (Some x) A B P Q f g m = g x m

pub simple_spelled : (order : Order) (interfaces : List NamedInterface) (s : List ℕ) (interface : NamedInterface) (captured original : ℕ) (frame : FrameParts)
    → 4 ≤ length s → original ≡ number_at order s 0 → captured ≡ kept interface.described.longest original → slice_get interfaces 0 ≡ Some interface → captured ≤ longest_frame → 4 + (captured + 3) / 4 * 4 ≤ length s
    → frame ≡ record { section = interface.section; interface = interface.number; link = interface.described.link; time = None; direction = Unknown; damaged = false; missed = 0; original = original; bytes = slice_range s 4 (4 + captured) }
    → SpellsSimple order interfaces s frame
simple_spelled order interfaces (a ∷ b ∷ c ∷ d ∷ u) interface captured original frame enough eo ec named few fits is =
    let padded = (captured + 3) / 4 * 4 in
    let round = rounded captured in
    let less : 4 + captured - 4 ≡ captured = omega arith in
    let bytes : frame.bytes ≡ take captured u = ap (λ (f : FrameParts). f.bytes) is ∙ ap (λ n. take n u) less in
    let long : length frame.bytes ≡ captured = ap length bytes ∙ length-take-le captured u (omega arith) in
    let pad : length (slice_range u captured padded) ≡ padded - captured = length-slice_range captured padded u (omega arith) in
    let whole : u ≡ frame.bytes ++ (slice_range u captured padded ++ drop padded u) = three_parts captured padded u round.0 ∙ ap (λ l. l ++ (slice_range u captured padded ++ drop padded u)) (sym bytes) in
    let same : frame.original ≡ original = ap (λ (f : FrameParts). f.original) is in
    record {
      front = a ∷ b ∷ c ∷ d ∷ [];
      padding = slice_range u captured padded;
      rest = drop padded u;
      interface = interface;
      are = λ i. a ∷ b ∷ c ∷ d ∷ whole i;
      original = (a, b, c, d, [], refl, same ∙ eo, refl);
      named = named;
      sized = long ∙ ec ∙ ap (kept interface.described.longest) (sym same);
      padded = (omega (arith, pad, round.1), let e : length frame.bytes + length (slice_range u captured padded) ≡ padded = omega (arith, pad, long, round.0) in ap (λ n. n % 4) e ∙ round.2);
      few = omega (arith, long, few);
      link = ap (λ (f : FrameParts). f.link) is;
      time = ap (λ (f : FrameParts). f.time) is;
      direction = ap (λ (f : FrameParts). f.direction) is;
      section = ap (λ (f : FrameParts). f.section) is;
      number = ap (λ (f : FrameParts). f.interface) is;
      damaged = ap (λ (f : FrameParts). f.damaged) is;
      missed = ap (λ (f : FrameParts). f.missed) is;
    }
simple_spelled order interfaces _ interface captured original frame enough eo ec named few fits is = absurd (omega arith)

-- ---- which block it is

six : (order : Order) (interfaces : List NamedInterface) (kind : ℕ) (body : List ℕ) (frame : FrameParts) → kind ≡ 6 → SpellsPacket order interfaces kind body frame → SpellsEnhanced order interfaces body frame
six order interfaces kind body frame is (inl p) = p.1
six order interfaces kind body frame is (inr (inl p)) = absurd (omega (arith, is, p.0))
six order interfaces kind body frame is (inr (inr p)) = absurd (omega (arith, is, p.0))

three : (order : Order) (interfaces : List NamedInterface) (kind : ℕ) (body : List ℕ) (frame : FrameParts) → kind ≡ 3 → SpellsPacket order interfaces kind body frame → SpellsSimple order interfaces body frame
three order interfaces kind body frame is (inl p) = absurd (omega (arith, is, p.0))
three order interfaces kind body frame is (inr (inl p)) = p.1
three order interfaces kind body frame is (inr (inr p)) = absurd (omega (arith, is, p.0))

second : (order : Order) (interfaces : List NamedInterface) (kind : ℕ) (body : List ℕ) (frame : FrameParts) → kind ≡ 2 → SpellsPacket order interfaces kind body frame → SpellsObsolete order interfaces body frame
second order interfaces kind body frame is (inl p) = absurd (omega (arith, is, p.0))
second order interfaces kind body frame is (inr (inl p)) = absurd (omega (arith, is, p.0))
second order interfaces kind body frame is (inr (inr p)) = p.1

module _ (order : Order) (interfaces : List NamedInterface) (kind : ℕ) (body : List ℕ) (result : Option Place) where
  pub as_six : kind ≡ 6 → MatchOption result ((frame : FrameParts) → SpellsEnhanced order interfaces body frame → ⊥) (λ p. SpellsEnhanced order interfaces body (frame_at p body))
      → MatchOption result ((frame : FrameParts) → SpellsPacket order interfaces kind body frame → ⊥) (λ p. SpellsPacket order interfaces kind body (frame_at p body))
  as_six is answer = answer_of result _ _ _ _ (λ never frame p. never frame (six order interfaces kind body frame is p)) (λ p spelled. inl (is, spelled)) answer

  pub as_three : kind ≡ 3 → MatchOption result ((frame : FrameParts) → SpellsSimple order interfaces body frame → ⊥) (λ p. SpellsSimple order interfaces body (frame_at p body))
      → MatchOption result ((frame : FrameParts) → SpellsPacket order interfaces kind body frame → ⊥) (λ p. SpellsPacket order interfaces kind body (frame_at p body))
  as_three is answer = answer_of result _ _ _ _ (λ never frame p. never frame (three order interfaces kind body frame is p)) (λ p spelled. inr (inl (is, spelled))) answer

  pub as_second : kind ≡ 2 → MatchOption result ((frame : FrameParts) → SpellsObsolete order interfaces body frame → ⊥) (λ p. SpellsObsolete order interfaces body (frame_at p body))
      → MatchOption result ((frame : FrameParts) → SpellsPacket order interfaces kind body frame → ⊥) (λ p. SpellsPacket order interfaces kind body (frame_at p body))
  as_second is answer = answer_of result _ _ _ _ (λ never frame p. never frame (second order interfaces kind body frame is p)) (λ p spelled. inr (inr (is, spelled))) answer
