-- The header and a record of a classic recording, from the bytes at their places.
use Rattle.std.proofs.Common.{◌≡◌, ℕ, ◌+◌, ◌-◌, ◌*◌, ◌%◌, ◌≤◌, List, [], ◌∷◌, ◌++◌, length, take, drop, refl, sym, ap, ◌∙◌, arith, false, Some}
use Rattle.net_pcap.specs.{four, number_at, magic, major, SpellsHeader, SpellsRecord, fraction_unit, FrameParts, longest_frame, Unknown}
use Rattle.net_pcap.specs.declared.layout.Classic.{Classic}
use Rattle.std.specs.List.{slice_range}
use Rattle.std.proofs.lemmas.List.{take_all}

pub header_spelled : (s : List ℕ) (classic : Classic) (link : ℕ) → length s ≡ 24 → take 4 s ≡ magic classic.order classic.nano → take (6 - 4) (drop 4 s) ≡ major classic.order
    → link ≡ number_at classic.order s 20 → classic.link ≡ link % 65536 → SpellsHeader s classic
header_spelled (b0 ∷ b1 ∷ b2 ∷ b3 ∷ b4 ∷ b5 ∷ b6 ∷ b7 ∷ b8 ∷ b9 ∷ b10 ∷ b11 ∷ b12 ∷ b13 ∷ b14 ∷ b15 ∷ b16 ∷ b17 ∷ b18 ∷ b19 ∷ b20 ∷ b21 ∷ b22 ∷ b23 ∷ []) classic link sized is_magic is_major is kind =
    let order = classic.order in
    record {
      minor = b6 ∷ b7 ∷ [];
      rest = b8 ∷ b9 ∷ b10 ∷ b11 ∷ b12 ∷ b13 ∷ b14 ∷ b15 ∷ b16 ∷ b17 ∷ b18 ∷ b19 ∷ b20 ∷ b21 ∷ b22 ∷ b23 ∷ [];
      zone = four order b8 b9 b10 b11;
      figures = four order b12 b13 b14 b15;
      longest = four order b16 b17 b18 b19;
      link = link;
      are = λ i. is_magic i ++ (is_major i ++ (b6 ∷ b7 ∷ b8 ∷ b9 ∷ b10 ∷ b11 ∷ b12 ∷ b13 ∷ b14 ∷ b15 ∷ b16 ∷ b17 ∷ b18 ∷ b19 ∷ b20 ∷ b21 ∷ b22 ∷ b23 ∷ []));
      two = refl;
      numbers = (b8, b9, b10, b11, _, refl, refl, (b12, b13, b14, b15, _, refl, refl, (b16, b17, b18, b19, _, refl, refl, (b20, b21, b22, b23, [], refl, is, refl))));
      link_is = kind;
    }
header_spelled _ classic link sized is_magic is_major is kind = absurd (omega arith)

pub record_spelled : (classic : Classic) (s : List ℕ) (seconds fraction original unit : ℕ) (frame : FrameParts)
    → length s ≡ 16 + number_at classic.order s 8 → length s ≤ 16 + longest_frame
    → seconds ≡ number_at classic.order s 0 → fraction ≡ number_at classic.order s 4 → original ≡ number_at classic.order s 12 → unit ≡ fraction_unit classic.nano
    → frame ≡ record { section = 0; interface = 0; link = classic.link; time = Some (seconds * 1000000000 + fraction * unit); direction = Unknown; damaged = false; missed = 0; original = original; bytes = slice_range s 16 (length s) }
    → SpellsRecord classic s frame
record_spelled classic (b0 ∷ b1 ∷ b2 ∷ b3 ∷ b4 ∷ b5 ∷ b6 ∷ b7 ∷ b8 ∷ b9 ∷ b10 ∷ b11 ∷ b12 ∷ b13 ∷ b14 ∷ b15 ∷ rest) seconds fraction original unit frame sized few es ef eo eu is =
    let order = classic.order in
    let bytes : frame.bytes ≡ rest = ap (λ (f : FrameParts). f.bytes) is ∙ take_all _ rest (omega arith) in
    let kept : length frame.bytes ≡ four order b8 b9 b10 b11 = omega (arith, ap length bytes, sized) in
    record {
      head = b0 ∷ b1 ∷ b2 ∷ b3 ∷ b4 ∷ b5 ∷ b6 ∷ b7 ∷ b8 ∷ b9 ∷ b10 ∷ b11 ∷ b12 ∷ b13 ∷ b14 ∷ b15 ∷ [];
      seconds = seconds;
      fraction = fraction;
      are = λ i. b0 ∷ b1 ∷ b2 ∷ b3 ∷ b4 ∷ b5 ∷ b6 ∷ b7 ∷ b8 ∷ b9 ∷ b10 ∷ b11 ∷ b12 ∷ b13 ∷ b14 ∷ b15 ∷ sym bytes i;
      numbers = (b0, b1, b2, b3, _, refl, es, (b4, b5, b6, b7, _, refl, ef, (b8, b9, b10, b11, _, refl, kept, (b12, b13, b14, b15, [], refl, ap (λ (f : FrameParts). f.original) is ∙ eo, refl))));
      few = omega (arith, ap length bytes, few);
      link = ap (λ (f : FrameParts). f.link) is;
      time = ap (λ (f : FrameParts). f.time) is ∙ ap (λ u. Some (seconds * 1000000000 + fraction * u)) eu;
      direction = ap (λ (f : FrameParts). f.direction) is;
      section = ap (λ (f : FrameParts). f.section) is;
      interface = ap (λ (f : FrameParts). f.interface) is;
      damaged = ap (λ (f : FrameParts). f.damaged) is;
      missed = ap (λ (f : FrameParts). f.missed) is;
    }
record_spelled classic _ seconds fraction original unit frame sized few es ef eo eu is = absurd (omega arith)
