-- Bytes say one frame, one interface or one layout at most.
use Rattle.std.proofs.Common.{◌≡◌, inl, inr, ℕ, ◌+◌, ◌*◌, ◌/◌, ◌%◌, ◌^◌, ◌<◌, List, [], ◌∷◌, ◌++◌, length, get_or, refl, sym, ap, ◌∙◌, subst, arith, Bool, true, false, Option, Some, None, slice_get}
use Rattle.net_pcap.specs.{two, Spells, time_of, FrameParts, magic, major, fraction_unit, SpellsHeader, SpellsRecord, OptionParts, SpellsOptions, first_value, SpellsInterface, SpellsTimed, SpellsEnhanced, SpellsObsolete, SpellsSimple, SpellsPacket, kept, units_by, offset_by, direction_by, count_said, damaged_by, missed_by, Order, Big, Little, Interface, NamedInterface}
use Rattle.net_pcap.specs.declared.layout.Classic.{Classic as Header}
use Rattle.net_pcap.proofs.Cuts.{cut_one}
use Rattle.net_pcap.proofs.Fours.{spells_one}
use Rattle.net_pcap.proofs.OptionCuts.{options_one}
use Rattle.net_pcap.proofs.Packets.{padded_one}

frame_of : (f g : FrameParts) → f.section ≡ g.section → f.interface ≡ g.interface → f.link ≡ g.link → f.time ≡ g.time → f.direction ≡ g.direction → f.damaged ≡ g.damaged → f.missed ≡ g.missed → f.original ≡ g.original → f.bytes ≡ g.bytes → f ≡ g
frame_of f g section interface link time direction damaged missed original bytes = λ i. record { section = section i; interface = interface i; link = link i; time = time i; direction = direction i; damaged = damaged i; missed = missed i; original = original i; bytes = bytes i }

-- ---- classic recordings

magic_one : (o p : Order) (m n : Bool) → magic o m ≡ magic p n → (o ≡ p) × (m ≡ n)
magic_one Big Big false false e = (refl, refl)
magic_one Big Big true true e = (refl, refl)
magic_one Little Little false false e = (refl, refl)
magic_one Little Little true true e = (refl, refl)
magic_one Big Big false true e = absurd (omega (arith, ap (λ (l : List ℕ). get_or l 2 0) e))
magic_one Big Big true false e = absurd (omega (arith, ap (λ (l : List ℕ). get_or l 2 0) e))
magic_one Little Little false true e = absurd (omega (arith, ap (λ (l : List ℕ). get_or l 0 0) e))
magic_one Little Little true false e = absurd (omega (arith, ap (λ (l : List ℕ). get_or l 0 0) e))
magic_one Big Little false false e = absurd (omega (arith, ap (λ (l : List ℕ). get_or l 0 0) e))
magic_one Big Little false true e = absurd (omega (arith, ap (λ (l : List ℕ). get_or l 0 0) e))
magic_one Big Little true false e = absurd (omega (arith, ap (λ (l : List ℕ). get_or l 0 0) e))
magic_one Big Little true true e = absurd (omega (arith, ap (λ (l : List ℕ). get_or l 0 0) e))
magic_one Little Big false false e = absurd (omega (arith, ap (λ (l : List ℕ). get_or l 0 0) e))
magic_one Little Big false true e = absurd (omega (arith, ap (λ (l : List ℕ). get_or l 0 0) e))
magic_one Little Big true false e = absurd (omega (arith, ap (λ (l : List ℕ). get_or l 0 0) e))
magic_one Little Big true true e = absurd (omega (arith, ap (λ (l : List ℕ). get_or l 0 0) e))

pub magic_length : (o : Order) (m : Bool) → length (magic o m) ≡ 4
magic_length Big false = refl
magic_length Big true = refl
magic_length Little false = refl
magic_length Little true = refl

pub major_length : (o : Order) → length (major o) ≡ 2
major_length Big = refl
major_length Little = refl

pub header_one : (bytes : List ℕ) (f g : Header) → SpellsHeader bytes f → SpellsHeader bytes g → f ≡ g
header_one bytes f g p q =
    let first = cut_one (magic f.order f.nano) (magic g.order g.nano) _ _ (magic_length f.order f.nano ∙ sym (magic_length g.order g.nano)) (sym p.are ∙ q.are) in
    let names = magic_one f.order g.order f.nano g.nano first.0 in
    let second = cut_one (major f.order) (major g.order) _ _ (major_length f.order ∙ sym (major_length g.order)) first.1 in
    let third = cut_one p.minor q.minor p.rest q.rest (p.two ∙ sym q.two) second.1 in
    let numbers = subst (λ (o : Order). Spells o p.rest (p.zone ∷ p.figures ∷ p.longest ∷ p.link ∷ [])) names.0 p.numbers in
    let same = spells_one g.order p.rest q.rest [] [] (p.zone ∷ p.figures ∷ p.longest ∷ p.link ∷ []) (q.zone ∷ q.figures ∷ q.longest ∷ q.link ∷ []) numbers q.numbers refl (ap (λ l. l ++ []) third.1) in
    let link : f.link ≡ g.link = p.link_is ∙ ap (λ (l : List ℕ). get_or l 3 0 % 65536) same.0 ∙ sym q.link_is in
    λ i. record { order = names.0 i; nano = names.1 i; link = link i }

pub record_one : (classic : Header) (bytes : List ℕ) (f g : FrameParts) → SpellsRecord classic bytes f → SpellsRecord classic bytes g → f ≡ g
record_one classic bytes f g p q =
    let same = spells_one classic.order p.head q.head f.bytes g.bytes (p.seconds ∷ p.fraction ∷ length f.bytes ∷ f.original ∷ []) (q.seconds ∷ q.fraction ∷ length g.bytes ∷ g.original ∷ []) p.numbers q.numbers refl (sym p.are ∙ q.are) in
    let time = ap (λ (l : List ℕ). Some (get_or l 0 0 * 1000000000 + get_or l 1 0 * fraction_unit classic.nano)) same.0 in
    frame_of f g (p.section ∙ sym q.section) (p.interface ∙ sym q.interface) (p.link ∙ sym q.link) (p.time ∙ time ∙ sym q.time) (p.direction ∙ sym q.direction) (p.damaged ∙ sym q.damaged) (p.missed ∙ sym q.missed) (ap (λ (l : List ℕ). get_or l 3 0) same.0) same.2

-- ---- interfaces and packets

two_one : (order : Order) (a b c d : ℕ) → a ≡ c → b ≡ d → two order a b ≡ two order c d
two_one order a b c d p q = λ i. two order (p i) (q i)

pub interface_one : (order : Order) (body : List ℕ) (f g : Interface) → SpellsInterface order body f → SpellsInterface order body g → f ≡ g
interface_one order body f g p q =
    let e = sym p.are ∙ q.are in
    let ea : p.a ≡ q.a = cc in
    let eb : p.b ≡ q.b = cc in
    let rest : p.longest ++ p.options ≡ q.longest ++ q.options = cc in
    let same = spells_one order p.longest q.longest p.options q.options (f.longest ∷ []) (g.longest ∷ []) p.longest_is q.longest_is refl rest in
    let said : p.said ≡ q.said = options_one order q.options p.said q.said (subst (λ (l : List ℕ). SpellsOptions order l p.said) same.2 p.options_are) q.options_are in
    let link = p.link ∙ two_one order p.a p.b q.a q.b ea eb ∙ sym q.link in
    let longest = ap (λ (l : List ℕ). get_or l 0 0) same.0 in
    let units = p.units ∙ ap (λ (l : List OptionParts). units_by (first_value 9 1 l)) said ∙ sym q.units in
    let offset = p.offset ∙ ap (λ (l : List OptionParts). offset_by order (first_value 14 8 l)) said ∙ sym q.offset in
    λ i. record { link = link i; longest = longest i; units = units i; offset = offset i }

-- a frame, its padding and what follows it
padded_cut : (a b x y r s : List ℕ) → length a ≡ length b → length x < 4 → (length a + length x) % 4 ≡ 0 → length y < 4 → (length b + length y) % 4 ≡ 0 → a ++ (x ++ r) ≡ b ++ (y ++ s) → (a ≡ b) × (r ≡ s)
padded_cut a b x y r s sized lx px ly py e =
    let first = cut_one a b _ _ sized e in
    let pads : length x ≡ length y = omega (arith, padded_one (length a) (length x) lx px, padded_one (length b) (length y) ly py, ap (λ n. (n + 3) / 4 * 4) sized, sized) in
    (first.0, (cut_one x y r s pads first.1).1)

pub timed_one : (order : Order) (interface : NamedInterface) (count : Option ℕ) (bytes : List ℕ) (f g : FrameParts) → SpellsTimed order interface count bytes f → SpellsTimed order interface count bytes g → f ≡ g
timed_one order interface count bytes f g p q =
    let same = spells_one order p.front q.front (f.bytes ++ (p.padding ++ p.options)) (g.bytes ++ (q.padding ++ q.options)) (p.high ∷ p.low ∷ length f.bytes ∷ f.original ∷ []) (q.high ∷ q.low ∷ length g.bytes ∷ g.original ∷ []) p.numbers q.numbers refl (sym p.are ∙ q.are) in
    let size = ap (λ (l : List ℕ). get_or l 2 0) same.0 in
    let rest = padded_cut f.bytes g.bytes p.padding q.padding p.options q.options size p.padded.0 p.padded.1 q.padded.0 q.padded.1 same.2 in
    let said = options_one order q.options p.said q.said (subst (λ (l : List ℕ). SpellsOptions order l p.said) rest.1 p.options_are) q.options_are in
    frame_of f g (p.section ∙ sym q.section) (p.number ∙ sym q.number) (p.link ∙ sym q.link) (p.time ∙ ap (λ (l : List ℕ). time_of interface.described (get_or l 0 0 * 2 ^ 32 + get_or l 1 0)) same.0 ∙ sym q.time)
    (p.direction ∙ ap (λ (l : List OptionParts). direction_by order (first_value 2 4 l)) said ∙ sym q.direction) (p.damaged ∙ ap (λ (l : List OptionParts). damaged_by order (first_value 2 4 l)) said ∙ sym q.damaged)
    (p.missed ∙ ap (λ (l : List OptionParts). missed_by order count (first_value 4 8 l)) said ∙ sym q.missed) (ap (λ (l : List ℕ). get_or l 3 0) same.0) rest.0

same_interface : (interfaces : List NamedInterface) (a b : ℕ) (x y : NamedInterface) → slice_get interfaces a ≡ Some x → slice_get interfaces b ≡ Some y → a ≡ b → x ≡ y
same_interface interfaces a b x y p q e = let all : Some x ≡ Some y = sym p ∙ ap (slice_get interfaces) e ∙ q in cc

pub enhanced_one : (order : Order) (interfaces : List NamedInterface) (body : List ℕ) (f g : FrameParts) → SpellsEnhanced order interfaces body f → SpellsEnhanced order interfaces body g → f ≡ g
enhanced_one order interfaces body f g p q =
    let same = spells_one order p.front q.front p.rest q.rest (p.place ∷ []) (q.place ∷ []) p.place_is q.place_is refl (sym p.are ∙ q.are) in
    let interface = same_interface interfaces p.place q.place p.interface q.interface p.named q.named (ap (λ (l : List ℕ). get_or l 0 0) same.0) in
    timed_one order q.interface None q.rest f g (subst (λ (l : List ℕ). SpellsTimed order q.interface None l f) same.2 (subst (λ (i : NamedInterface). SpellsTimed order i None p.rest f) interface p.timed)) q.timed

pub obsolete_one : (order : Order) (interfaces : List NamedInterface) (body : List ℕ) (f g : FrameParts) → SpellsObsolete order interfaces body f → SpellsObsolete order interfaces body g → f ≡ g
obsolete_one order interfaces body f g p q =
    let e = sym p.are ∙ q.are in
    let ea : p.a ≡ q.a = cc in
    let eb : p.b ≡ q.b = cc in
    let ec : p.c ≡ q.c = cc in
    let ed : p.d ≡ q.d = cc in
    let rest : p.rest ≡ q.rest = cc in
    let count = ap count_said (two_one order p.c p.d q.c q.d ec ed) in
    let interface = same_interface interfaces (two order p.a p.b) (two order q.a q.b) p.interface q.interface p.named q.named (two_one order p.a p.b q.a q.b ea eb) in
    timed_one order q.interface (Some (count_said (two order q.c q.d))) q.rest f g (subst (λ (l : List ℕ). SpellsTimed order q.interface (Some (count_said (two order q.c q.d))) l f) rest
    (subst (λ (n : ℕ). SpellsTimed order q.interface (Some n) p.rest f) count (subst (λ (i : NamedInterface). SpellsTimed order i (Some (count_said (two order p.c p.d))) p.rest f) interface p.timed))) q.timed

pub simple_one : (order : Order) (interfaces : List NamedInterface) (body : List ℕ) (f g : FrameParts) → SpellsSimple order interfaces body f → SpellsSimple order interfaces body g → f ≡ g
simple_one order interfaces body f g p q =
    let same = spells_one order p.front q.front _ _ (f.original ∷ []) (g.original ∷ []) p.original q.original refl (sym p.are ∙ q.are) in
    let original = ap (λ (l : List ℕ). get_or l 0 0) same.0 in
    let interface = same_interface interfaces 0 0 p.interface q.interface p.named q.named refl in
    let size : length f.bytes ≡ length g.bytes = p.sized ∙ (λ i. kept (interface i).described.longest (original i)) ∙ sym q.sized in
    let rest = padded_cut f.bytes g.bytes p.padding q.padding p.rest q.rest size p.padded.0 p.padded.1 q.padded.0 q.padded.1 same.2 in
    frame_of f g (p.section ∙ ap (λ (i : NamedInterface). i.section) interface ∙ sym q.section) (p.number ∙ ap (λ (i : NamedInterface). i.number) interface ∙ sym q.number) (p.link ∙ ap (λ (i : NamedInterface). i.described.link) interface ∙ sym q.link) (p.time ∙ sym q.time) (p.direction ∙ sym q.direction) (p.damaged ∙ sym q.damaged) (p.missed ∙ sym q.missed) original rest.0

pub packet_one : (order : Order) (interfaces : List NamedInterface) (kind : ℕ) (body : List ℕ) (f g : FrameParts) → SpellsPacket order interfaces kind body f → SpellsPacket order interfaces kind body g → f ≡ g
packet_one order interfaces kind body f g (inl p) (inl q) = enhanced_one order interfaces body f g p.1 q.1
packet_one order interfaces kind body f g (inr (inl p)) (inr (inl q)) = simple_one order interfaces body f g p.1 q.1
packet_one order interfaces kind body f g (inr (inr p)) (inr (inr q)) = obsolete_one order interfaces body f g p.1 q.1
packet_one order interfaces kind body f g (inl p) (inr (inl q)) = absurd (omega (arith, p.0, q.0))
packet_one order interfaces kind body f g (inl p) (inr (inr q)) = absurd (omega (arith, p.0, q.0))
packet_one order interfaces kind body f g (inr (inl p)) (inl q) = absurd (omega (arith, p.0, q.0))
packet_one order interfaces kind body f g (inr (inl p)) (inr (inr q)) = absurd (omega (arith, p.0, q.0))
packet_one order interfaces kind body f g (inr (inr p)) (inl q) = absurd (omega (arith, p.0, q.0))
packet_one order interfaces kind body f g (inr (inr p)) (inr (inl q)) = absurd (omega (arith, p.0, q.0))
