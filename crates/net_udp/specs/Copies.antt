pub mod Copies
pub mod Recently
pub mod Worked
pub use Rattle.net_udp.specs.Copies.Copies.{AreOne, IsCopy, Packet}
pub use Rattle.net_udp.specs.Copies.Recently.{RecentState, StandsFor, shown}
