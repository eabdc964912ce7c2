-- The worked recordings are recordings of the worked frame.
use Rattle.std.proofs.Common.{inl, inr, ℕ, List, [], ◌∷◌, get_or, ap, arith, refl, lit≤, lit<, false}
use Rattle.net_pcap.specs.{SpellsHeader, SpellsRecord, SpellsBlock, SpellsSection, SpellsInterface, SpellsEnhanced, SpellsStatistics, counted, statistics_body, worked_named, IsRecording, worked_frame, worked_classic, worked_header, worked_record, worked_blocks, worked_section, worked_interface, worked_packet, Little, Interface, NamedInterface}
use Rattle.net_pcap.specs.Pieces.Said.{Opens, Names, Gives}
use Rattle.net_pcap.specs.declared.layout.Layout.TheVariants.{Classic, Blocks}
use Rattle.net_pcap.specs.declared.layout.Classic.{Classic as Header}

abbrev header : Header
header = record { order = Little; nano = false; link = 1 }

header_is : SpellsHeader worked_header header
header_is = record { minor = 4 ∷ 0 ∷ []; rest = 0 ∷ 0 ∷ 0 ∷ 0 ∷ 0 ∷ 0 ∷ 0 ∷ 0 ∷ 0 ∷ 0 ∷ 4 ∷ 0 ∷ 1 ∷ 0 ∷ 0 ∷ 0 ∷ []; zone = 0; figures = 0; longest = 262144; link = 1; are = refl; two = refl; numbers = (0, 0, 0, 0, _, refl, refl, (0, 0, 0, 0, _, refl, refl, (0, 0, 4, 0, _, refl, refl, (1, 0, 0, 0, _, refl, refl, refl)))); link_is = refl }

record_is : SpellsRecord header worked_record (worked_frame 0)
record_is = record { head = 251 ∷ 220 ∷ 3 ∷ 107 ∷ 167 ∷ 17 ∷ 12 ∷ 0 ∷ 46 ∷ 0 ∷ 0 ∷ 0 ∷ 46 ∷ 0 ∷ 0 ∷ 0 ∷ []; seconds = 1795415291; fraction = 790951; are = refl; numbers = (251, 220, 3, 107, _, refl, refl, (167, 17, 12, 0, _, refl, refl, (46, 0, 0, 0, _, refl, refl, (46, 0, 0, 0, _, refl, refl, refl)))); few = lit≤ tt; link = refl; time = refl; direction = refl; section = refl; interface = refl; damaged = refl; missed = refl }

pub classic_is : IsRecording worked_classic (worked_frame 0 ∷ [])
classic_is = record {
  mode = record { layout = Classic header; sections = 1; before = 0; interfaces = [] };
  count = 2;
  stands = record { pieces = worked_header ∷ worked_record ∷ []; are = refl; follows = (Opens (Classic header), worked_frame 0 ∷ [], header_is, refl, (Gives (worked_frame 0), [], record_is, refl, (refl, refl))); counted = refl };
  opened = λ e. let x : ⊥ = cc in x;
  few = lit< tt;
}

section_is : SpellsSection worked_section Little
section_is = record {
  a = 1;
  b = 0;
  body = 77 ∷ 60 ∷ 43 ∷ 26 ∷ 1 ∷ 0 ∷ 0 ∷ 0 ∷ 255 ∷ 255 ∷ 255 ∷ 255 ∷ 255 ∷ 255 ∷ 255 ∷ 255 ∷ 4 ∷ 0 ∷ 69 ∷ 0 ∷ 69 ∷ 100 ∷ 105 ∷ 116 ∷ 99 ∷ 97 ∷ 112 ∷ 32 ∷ 40 ∷ 87 ∷ 105 ∷ 114 ∷ 101 ∷ 115 ∷ 104 ∷ 97 ∷ 114 ∷ 107 ∷ 41 ∷ 32 ∷ 52 ∷ 46 ∷ 48 ∷ 46 ∷ 49 ∷ 55 ∷ 32 ∷ 40 ∷ 71 ∷ 105 ∷ 116 ∷ 32 ∷ 118 ∷ 52 ∷ 46 ∷ 48 ∷ 46 ∷ 49 ∷ 55 ∷ 32 ∷ 112 ∷ 97 ∷ 99 ∷ 107 ∷ 97 ∷ 103 ∷ 101 ∷ 100 ∷ 32 ∷ 97 ∷ 115 ∷ 32 ∷ 52 ∷ 46 ∷ 48 ∷ 46 ∷ 49 ∷ 55 ∷ 45 ∷ 48 ∷ 43 ∷ 100 ∷ 101 ∷ 98 ∷ 49 ∷ 50 ∷ 117 ∷ 51 ∷ 41 ∷ 0 ∷ 0 ∷ 0 ∷ 0 ∷ 0 ∷ 0 ∷ 0 ∷ [];
  rest = 0 ∷ 0 ∷ 255 ∷ 255 ∷ 255 ∷ 255 ∷ 255 ∷ 255 ∷ 255 ∷ 255 ∷ 4 ∷ 0 ∷ 69 ∷ 0 ∷ 69 ∷ 100 ∷ 105 ∷ 116 ∷ 99 ∷ 97 ∷ 112 ∷ 32 ∷ 40 ∷ 87 ∷ 105 ∷ 114 ∷ 101 ∷ 115 ∷ 104 ∷ 97 ∷ 114 ∷ 107 ∷ 41 ∷ 32 ∷ 52 ∷ 46 ∷ 48 ∷ 46 ∷ 49 ∷ 55 ∷ 32 ∷ 40 ∷ 71 ∷ 105 ∷ 116 ∷ 32 ∷ 118 ∷ 52 ∷ 46 ∷ 48 ∷ 46 ∷ 49 ∷ 55 ∷ 32 ∷ 112 ∷ 97 ∷ 99 ∷ 107 ∷ 97 ∷ 103 ∷ 101 ∷ 100 ∷ 32 ∷ 97 ∷ 115 ∷ 32 ∷ 52 ∷ 46 ∷ 48 ∷ 46 ∷ 49 ∷ 55 ∷ 45 ∷ 48 ∷ 43 ∷ 100 ∷ 101 ∷ 98 ∷ 49 ∷ 50 ∷ 117 ∷ 51 ∷ 41 ∷ 0 ∷ 0 ∷ 0 ∷ 0 ∷ 0 ∷ 0 ∷ 0 ∷ [];
  block = record { size = 108 ∷ 0 ∷ 0 ∷ 0 ∷ []; again = 108 ∷ 0 ∷ 0 ∷ 0 ∷ []; are = refl; typed = refl; size_is = (108, 0, 0, 0, _, refl, refl, refl); again_is = (108, 0, 0, 0, _, refl, refl, refl); words = refl; few = lit≤ tt };
  are = refl;
  version = refl;
  enough = lit≤ tt;
}

abbrev interface : Interface
interface = record { link = 1; longest = 262144; units = 1000000; offset = 0 }

abbrev named : NamedInterface
named = record { described = interface; section = 1; number = 0; reported = 0; missed = 0 }

interface_block : SpellsBlock Little worked_interface (1 ∷ 0 ∷ 0 ∷ 0 ∷ []) (1 ∷ 0 ∷ 0 ∷ 0 ∷ 0 ∷ 0 ∷ 4 ∷ 0 ∷ [])
interface_block = record { size = 20 ∷ 0 ∷ 0 ∷ 0 ∷ []; again = 20 ∷ 0 ∷ 0 ∷ 0 ∷ []; are = refl; typed = refl; size_is = (20, 0, 0, 0, _, refl, refl, refl); again_is = (20, 0, 0, 0, _, refl, refl, refl); words = refl; few = lit≤ tt }

interface_is : SpellsInterface Little (1 ∷ 0 ∷ 0 ∷ 0 ∷ 0 ∷ 0 ∷ 4 ∷ 0 ∷ []) interface
interface_is = record { a = 1; b = 0; c = 0; d = 0; longest = 0 ∷ 0 ∷ 4 ∷ 0 ∷ []; options = []; said = []; are = refl; link = refl; longest_is = (0, 0, 4, 0, _, refl, refl, refl); options_are = inl refl; units = refl; offset = refl }

packet_block : SpellsBlock Little worked_packet (6 ∷ 0 ∷ 0 ∷ 0 ∷ []) (0 ∷ 0 ∷ 0 ∷ 0 ∷ 235 ∷ 96 ∷ 6 ∷ 0 ∷ 103 ∷ 6 ∷ 177 ∷ 178 ∷ 46 ∷ 0 ∷ 0 ∷ 0 ∷ 46 ∷ 0 ∷ 0 ∷ 0 ∷ 0 ∷ 0 ∷ 0 ∷ 0 ∷ 0 ∷ 0 ∷ 0 ∷ 0 ∷ 0 ∷ 0 ∷ 0 ∷ 0 ∷ 8 ∷ 0 ∷ 69 ∷ 0 ∷ 0 ∷ 32 ∷ 249 ∷ 118 ∷ 64 ∷ 0 ∷ 64 ∷ 17 ∷ 189 ∷ 83 ∷ 192 ∷ 0 ∷ 2 ∷ 1 ∷ 192 ∷ 0 ∷ 2 ∷ 1 ∷ 133 ∷ 8 ∷ 203 ∷ 5 ∷ 0 ∷ 12 ∷ 132 ∷ 32 ∷ 0 ∷ 4 ∷ 0 ∷ 1 ∷ 0 ∷ 0 ∷ [])
packet_block = record { size = 80 ∷ 0 ∷ 0 ∷ 0 ∷ []; again = 80 ∷ 0 ∷ 0 ∷ 0 ∷ []; are = refl; typed = refl; size_is = (80, 0, 0, 0, _, refl, refl, refl); again_is = (80, 0, 0, 0, _, refl, refl, refl); words = refl; few = lit≤ tt }

packet_is : SpellsEnhanced Little (named ∷ []) (0 ∷ 0 ∷ 0 ∷ 0 ∷ 235 ∷ 96 ∷ 6 ∷ 0 ∷ 103 ∷ 6 ∷ 177 ∷ 178 ∷ 46 ∷ 0 ∷ 0 ∷ 0 ∷ 46 ∷ 0 ∷ 0 ∷ 0 ∷ 0 ∷ 0 ∷ 0 ∷ 0 ∷ 0 ∷ 0 ∷ 0 ∷ 0 ∷ 0 ∷ 0 ∷ 0 ∷ 0 ∷ 8 ∷ 0 ∷ 69 ∷ 0 ∷ 0 ∷ 32 ∷ 249 ∷ 118 ∷ 64 ∷ 0 ∷ 64 ∷ 17 ∷ 189 ∷ 83 ∷ 192 ∷ 0 ∷ 2 ∷ 1 ∷ 192 ∷ 0 ∷ 2 ∷ 1 ∷ 133 ∷ 8 ∷ 203 ∷ 5 ∷ 0 ∷ 12 ∷ 132 ∷ 32 ∷ 0 ∷ 4 ∷ 0 ∷ 1 ∷ 0 ∷ 0 ∷ []) (worked_frame 1)
packet_is = record {
  place = 0;
  front = 0 ∷ 0 ∷ 0 ∷ 0 ∷ [];
  rest = 235 ∷ 96 ∷ 6 ∷ 0 ∷ 103 ∷ 6 ∷ 177 ∷ 178 ∷ 46 ∷ 0 ∷ 0 ∷ 0 ∷ 46 ∷ 0 ∷ 0 ∷ 0 ∷ 0 ∷ 0 ∷ 0 ∷ 0 ∷ 0 ∷ 0 ∷ 0 ∷ 0 ∷ 0 ∷ 0 ∷ 0 ∷ 0 ∷ 8 ∷ 0 ∷ 69 ∷ 0 ∷ 0 ∷ 32 ∷ 249 ∷ 118 ∷ 64 ∷ 0 ∷ 64 ∷ 17 ∷ 189 ∷ 83 ∷ 192 ∷ 0 ∷ 2 ∷ 1 ∷ 192 ∷ 0 ∷ 2 ∷ 1 ∷ 133 ∷ 8 ∷ 203 ∷ 5 ∷ 0 ∷ 12 ∷ 132 ∷ 32 ∷ 0 ∷ 4 ∷ 0 ∷ 1 ∷ 0 ∷ 0 ∷ [];
  interface = named;
  are = refl;
  place_is = (0, 0, 0, 0, _, refl, refl, refl);
  named = refl;
  timed = record { high = 418027; low = 2997945959; front = 235 ∷ 96 ∷ 6 ∷ 0 ∷ 103 ∷ 6 ∷ 177 ∷ 178 ∷ 46 ∷ 0 ∷ 0 ∷ 0 ∷ 46 ∷ 0 ∷ 0 ∷ 0 ∷ []; padding = 0 ∷ 0 ∷ []; options = []; said = []; are = refl; numbers = (235, 96, 6, 0, _, refl, refl, (103, 6, 177, 178, _, refl, refl, (46, 0, 0, 0, _, refl, refl, (46, 0, 0, 0, _, refl, refl, refl)))); padded = (lit< tt, refl); options_are = inl refl; few = lit≤ tt; link = refl; time = refl; direction = refl; section = refl; number = refl; damaged = refl; missed = refl };
}

pub blocks_are : IsRecording worked_blocks (worked_frame 1 ∷ [])
blocks_are = record {
  mode = record { layout = Blocks Little; sections = 1; before = 0; interfaces = named ∷ [] };
  count = 3;
  stands = record {
    pieces = worked_section ∷ worked_interface ∷ worked_packet ∷ [];
    are = refl;
    follows = (
      Opens (Blocks Little),
      worked_frame 1 ∷ [],
      section_is,
      refl,
      (
        Names interface,
        worked_frame 1 ∷ [],
        (1 ∷ 0 ∷ 0 ∷ 0 ∷ [], 1 ∷ 0 ∷ 0 ∷ 0 ∷ 0 ∷ 0 ∷ 4 ∷ 0 ∷ [], 1, interface_block, (λ e. let x : ⊥ = omega (arith, ap (λ (l : List ℕ). get_or l 0 0) e) in x), (1, 0, 0, 0, _, refl, refl, refl), (refl, interface_is, lit< tt)),
        refl,
        (Gives (worked_frame 1), [], (6 ∷ 0 ∷ 0 ∷ 0 ∷ [], 0 ∷ 0 ∷ 0 ∷ 0 ∷ 235 ∷ 96 ∷ 6 ∷ 0 ∷ 103 ∷ 6 ∷ 177 ∷ 178 ∷ 46 ∷ 0 ∷ 0 ∷ 0 ∷ 46 ∷ 0 ∷ 0 ∷ 0 ∷ 0 ∷ 0 ∷ 0 ∷ 0 ∷ 0 ∷ 0 ∷ 0 ∷ 0 ∷ 0 ∷ 0 ∷ 0 ∷ 0 ∷ 8 ∷ 0 ∷ 69 ∷ 0 ∷ 0 ∷ 32 ∷ 249 ∷ 118 ∷ 64 ∷ 0 ∷ 64 ∷ 17 ∷ 189 ∷ 83 ∷ 192 ∷ 0 ∷ 2 ∷ 1 ∷ 192 ∷ 0 ∷ 2 ∷ 1 ∷ 133 ∷ 8 ∷ 203 ∷ 5 ∷ 0 ∷ 12 ∷ 132 ∷ 32 ∷ 0 ∷ 4 ∷ 0 ∷ 1 ∷ 0 ∷ 0 ∷ [], 6, packet_block, (λ e. let x : ⊥ = omega (arith, ap (λ (l : List ℕ). get_or l 0 0) e) in x), (6, 0, 0, 0, _, refl, refl, refl), inl (refl, packet_is)), refl, (refl, refl)),
      ),
    );
    counted = refl;
  };
  opened = λ e. let x : ⊥ = cc in x;
  few = lit< tt;
}

pub statistics_is : SpellsStatistics Little (worked_named ∷ []) statistics_body (counted 5)
statistics_is = record {
  high = 0;
  low = 0;
  front = 0 ∷ 0 ∷ 0 ∷ 0 ∷ 0 ∷ 0 ∷ 0 ∷ 0 ∷ 0 ∷ 0 ∷ 0 ∷ 0 ∷ [];
  options = 5 ∷ 0 ∷ 8 ∷ 0 ∷ 3 ∷ 0 ∷ 0 ∷ 0 ∷ 0 ∷ 0 ∷ 0 ∷ 0 ∷ 7 ∷ 0 ∷ 8 ∷ 0 ∷ 2 ∷ 0 ∷ 0 ∷ 0 ∷ 0 ∷ 0 ∷ 0 ∷ 0 ∷ 0 ∷ 0 ∷ 0 ∷ 0 ∷ [];
  said = record { code = 5; value = 3 ∷ 0 ∷ 0 ∷ 0 ∷ 0 ∷ 0 ∷ 0 ∷ 0 ∷ [] } ∷ record { code = 7; value = 2 ∷ 0 ∷ 0 ∷ 0 ∷ 0 ∷ 0 ∷ 0 ∷ 0 ∷ [] } ∷ [];
  are = refl;
  numbers = (0, 0, 0, 0, _, refl, refl, (0, 0, 0, 0, _, refl, refl, (0, 0, 0, 0, _, refl, refl, refl)));
  named = lit< tt;
  options_are = (
    7 ∷ 0 ∷ 8 ∷ 0 ∷ 2 ∷ 0 ∷ 0 ∷ 0 ∷ 0 ∷ 0 ∷ 0 ∷ 0 ∷ 0 ∷ 0 ∷ 0 ∷ 0 ∷ [],
    record { a = 5; b = 0; c = 8; d = 0; padding = []; are = refl; code = refl; some = λ e. let x : ⊥ = omega (arith, e) in x; sized = refl; padded = (lit< tt, refl) },
    (
      0 ∷ 0 ∷ 0 ∷ 0 ∷ [],
      record { a = 7; b = 0; c = 8; d = 0; padding = []; are = refl; code = refl; some = λ e. let x : ⊥ = omega (arith, e) in x; sized = refl; padded = (lit< tt, refl) },
      inr (0, 0, 0, 0, [], refl, refl),
    ),
  );
  count = refl;
}
