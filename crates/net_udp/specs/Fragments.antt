pub mod Pieces
pub mod Key
pub mod KeyOrder
pub mod Set
pub mod Whole
pub mod Overlaps
pub mod Store
pub mod Worked
pub use Rattle.net_udp.specs.Fragments.Pieces.{Agrees, AreLaid, Held, HoldsPart, IsComplete, IsHeld, IsKept, StandsFor, cell, content_of, nothing_held, part_of}
pub use Rattle.net_udp.specs.Fragments.Key.{key_cmp, same_key}
pub use Rattle.net_udp.specs.Fragments.KeyOrder.{key_total}
pub use Rattle.net_udp.specs.Fragments.Set.{AreApart, AreNone, Arrival, IsSetOf, MayJoin, SetState, Spoils, TakeEnds, parts_of, room_of}
pub use Rattle.net_udp.specs.Fragments.Whole.{Among, AreSame, Covers, EndsRightly, FirstNames, Give, HasPart, InRow, IsCutInto, end_of}
pub use Rattle.net_udp.specs.Fragments.Overlaps.{OneOf, Overlap, OverlapsOne, PutTogether, TwoOverlap, extent_of}
pub use Rattle.net_udp.specs.Fragments.Store.{Comes, CountsAt, HasRoom, IsCounted, IsFull, IsKeptOf, IsTried, JoinEnds, MayBePut, PutEnds, Sets, WantsMemory, began_of, frames_of, is_long, least_behind, most_room, room_of_all, room_under, set_at}
pub use Rattle.net_udp.specs.Fragments.Worked.{across_of_udp, first_of_udp, in_ipv4, last_of_icmp, worked_content}
