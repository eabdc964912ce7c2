pub mod Buffers
pub mod Sinks
pub mod Standings
pub use Rattle.net_streams.specs.Streams.Buffers.{BufferState, most_ahead, most_of_line}
pub use Rattle.net_streams.specs.Streams.Sinks.{Added, Adds, AppendsPrefix, Ends, Gathers, IsFresh, Sink, Stops, Writes, WritesPart, WritesWhole, Wrote, write_failed}
pub use Rattle.net_streams.specs.Streams.Standings.{KeepsAnswer, standing_after}
