pub mod Netascii
pub mod Decoder
pub mod Runs
pub mod Counts
pub mod InPlace
pub use Netascii.{BeginsWithPair, Reads, bare_return, canonical_bytes, canonical_wire, cr, end, file_of, itself, lf, line_end, nul}
pub use Decoder.{EndsInReturn, StandsFor, held_count}
pub use Runs.{IsPlain, ReadsAfterReturn}
pub use Counts.{count_after, begins_control, is_second}
pub use InPlace.{file_at}
