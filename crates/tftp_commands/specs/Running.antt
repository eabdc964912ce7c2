-- What a command does with its reader and its writer.
use Rattle.std.specs.Prelude.{◌≡◌, ℕ, List, Bool, false, Option, Some}
use Rattle.std.specs.Io.KnownBytes.{Consumes}
use Rattle.net_streams.specs.Streams.{Sink}
use Rattle.tftp_commands.specs.declared.status.Status.{Status}
use Rattle.tftp_commands.specs.Outputs.{Output, Prints}
use Rattle.tftp_commands.specs.Sources.{Source, given, so_far}

-- The command runs, whatever its reader, its writer and the memory do: bytes were read, and an output that is right of
-- these was written, and its status is the run's; or, where a write failed, a part of it was. Where no read fails, it is
-- right of exactly the text that the reader had.
pub record Runs {R W : Type 0} (remaining : R → Option (List ℕ)) (contents : W → Option (List ℕ)) (IsRight : Source → Output → Type 0) (unread read : R × Bool) (unwritten written : Sink W) (status : Status) : Type 0 where
  pub said : (bytes : List ℕ) × (output : Output) × Consumes (remaining unread.0) (remaining read.0) bytes
      × IsRight (so_far bytes (remaining read.0) read.1) output
      × Prints contents unwritten written output status
  pub whole : (text : List ℕ) → remaining unread.0 ≡ Some text → read.1 ≡ false
      → (output : Output) × IsRight (given text) output × Prints contents unwritten written output status
