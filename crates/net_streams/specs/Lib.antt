pub mod Streams
pub mod Digits
pub use declared.streams.fault.WriteFault.{WriteFault}
pub use declared.streams.standing.Standing.{Standing}
pub use declared.streams.standing.Standing.TheVariants.{Open, Over, Failed}
