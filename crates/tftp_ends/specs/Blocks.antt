pub mod Store
pub mod Placement
pub mod Ring
pub mod Place
pub mod Spans
pub mod Kept
pub mod WorkedStore
pub use Rattle.tftp_ends.specs.Blocks.Store.{Differs, Held, IsHeldFront, IsHeldLast, IsHighest, IsJoin, IsOrderly, IsPending, JoinsSeveral, New, Places, Placing, Same, Takes, nothing_held}
pub use Rattle.tftp_ends.specs.Blocks.Ring.{IsEven, IsRing, IsRoom, IsRow, IsWhole, Slots, cut, filled, leading, numbered, placed, total}
pub use Rattle.tftp_ends.specs.Blocks.Spans.{AreWithin, part, shown}
pub use Rattle.tftp_ends.specs.Blocks.Kept.{IsKept, held_in, map_of}
pub use Rattle.tftp_ends.specs.Blocks.WorkedStore.{first_and_fourth, first_held}
