pub mod Digits
pub use Rattle.net_streams.specs.Digits.Digits.{AreNibbles, IsNibble}
