-- Where the lines of a reader end, in its bytes.
use Rattle.std.specs.Prelude.{◌≡◌, ◌≢◌, ℕ, ◌+◌, ◌-◌, ◌^◌, ◌<◌, ◌≤◌, Bool, true, false, List, [], ◌∷◌, ◌++◌, length, take, All, Option, Result, Ok, Err, OnOk, OnErr}
use Rattle.std.specs.Io.KnownBytes.{Consumes}
use Rattle.net_streams.specs.Streams.{most_ahead}
use Rattle.tftp_capture.specs.CaptureText.{longest_line, says_nothing, whole_lines}
use Rattle.tftp_capture.specs.declared.fault.TextFault.TheVariants.{LineTooLong, Truncated, TrailingText, TextTooLong}
use Rattle.tftp_capture.specs.declared.fault.CaptureFault.{CaptureFault}
use Rattle.tftp_capture.specs.declared.fault.CaptureFault.TheVariants as faults
use Rattle.tftp_capture.specs.declared.line_error.LineError.{LineError}
use Rattle.tftp_capture.specs.declared.version.Version.{Version}
use Rattle.tftp_capture.specs.declared.version.Version.TheVariants.{One}
use Rattle.tftp_capture.specs.declared.line_error.LineError.TheVariants.{Text, Read, Memory}

abbrev pub fault_at : LineError → ℕ → CaptureFault
fault_at (Text fault) line = faults.Text line fault
fault_at Read line = faults.Read line
fault_at Memory line = faults.Memory line

-- no byte is an LF
abbrev pub HasNoEnd : List ℕ → Type 0
HasNoEnd bytes = All (λ b. b ≢ 10) bytes

-- the bytes begin with so many that are no LF, and one more
pub record HasByteAt (bytes : List ℕ) (size : ℕ) (byte : ℕ) : Type 0 where
  pub front : List ℕ
  pub more : List ℕ
  pub are : bytes ≡ front ++ byte ∷ more
  pub no_end : HasNoEnd front
  pub sized : length front ≡ size

-- The bytes are part of a line of at most so many bytes that has not ended, for which there is room.
pub record IsPartOfLine (bytes : List ℕ) (longest room : ℕ) : Type 0 where
  pub no_end : HasNoEnd bytes
  pub narrow : length bytes ≤ longest
  pub short : length bytes ≤ room

-- so many of the bytes that are held are part of such a line, and no more bytes than are read at once come behind them
pub record HoldsPart (bytes : List ℕ) (seen longest room : ℕ) : Type 0 where
  pub within : seen ≤ length bytes
  pub near : length bytes ≤ seen + most_ahead
  pub part : IsPartOfLine (take seen bytes) longest room

-- What the bytes are that were taken to find the end of a line of at most `longest` bytes, where the text may have `room`
-- more: the line and its LF; or, where there is no line, what came up to the byte that can't stand there, or up to the text's end.
-- No line wants memory.
abbrev pub LineEnds : {T : Type 0} → Result T LineError → List ℕ → (longest room : ℕ) → List ℕ → Type 0
LineEnds (Ok _) line longest room bytes = (bytes ≡ line ++ 10 ∷ []) × IsPartOfLine line longest room × (length line < room)
LineEnds (Err (Text LineTooLong)) line longest room bytes = (byte : ℕ) × HasByteAt bytes longest byte × (byte ≢ 10) × (longest < room)
LineEnds (Err (Text TextTooLong)) line longest room bytes = (byte : ℕ) × HasByteAt bytes room byte × (room ≤ longest)
LineEnds (Err (Text Truncated)) line longest room bytes = IsPartOfLine bytes longest room
LineEnds (Err Read) line longest room bytes = IsPartOfLine bytes longest room
LineEnds (Err Memory) line longest room bytes = ⊥
LineEnds (Err (Text _)) line longest room bytes = ⊥

-- how many of the bytes read ahead are a line with its LF that lies there
abbrev pub bytes_lying : Result ℕ LineError → ℕ
bytes_lying (Ok count) = count
bytes_lying (Err error) = 0

-- the line that lies there so
abbrev pub line_at : (lies : ℕ) (ahead : List ℕ) → List ℕ
line_at lies ahead = take (lies - 1) ahead

-- ---- lines, one after another

-- what a source of lines holds: bytes read ahead, whether the last read gave as many as are read at once, the line last
-- read, how many bytes and lines were read, and the version of the lines that follow
pub record LineState : Type 0 where
  pub ahead : List ℕ
  pub full : Bool
  pub line : List ℕ
  pub taken : ℕ
  pub count : ℕ
  pub version : Version

-- lines of which none was read yet
abbrev pub unread : LineState
unread = record { ahead = []; full = false; line = []; taken = 0; count = 0; version = One }

-- a whole line that says nothing
pub record IsSilent (line : List ℕ) : Type 0 where
  pub nothing : says_nothing line ≡ true
  pub no_end : HasNoEnd line

-- the bytes begin with a line of so many bytes that says something, and its LF
pub record BeginsWithLine (bytes : List ℕ) (size : ℕ) : Type 0 where
  pub line : List ℕ
  pub more : List ℕ
  pub are : bytes ≡ line ++ 10 ∷ more
  pub sized : length line ≡ size
  pub no_end : HasNoEnd line
  pub says : says_nothing line ≡ false

-- a whole line that says something is among the bytes, after lines that say nothing
pub record HoldsLine (bytes : List ℕ) : Type 0 where
  pub silent : List (List ℕ)
  pub line : List ℕ
  pub more : List ℕ
  pub are : bytes ≡ whole_lines silent ++ (line ++ 10 ∷ more)
  pub nothing : All IsSilent silent
  pub no_end : HasNoEnd line
  pub says : says_nothing line ≡ false

-- the bytes are lines that say nothing, and a part of one more
pub record HoldsNoLine (bytes : List ℕ) : Type 0 where
  pub silent : List (List ℕ)
  pub part : List ℕ
  pub are : bytes ≡ whole_lines silent ++ part
  pub nothing : All IsSilent silent
  pub no_end : HasNoEnd part

-- a whole line of at most so many bytes that says nothing
pub record IsSkipped (longest : ℕ) (line : List ℕ) : Type 0 where
  pub nothing : says_nothing line ≡ true
  pub no_end : HasNoEnd line
  pub narrow : length line ≤ longest

-- the bytes begin with a whole line that says nothing, which has so many bytes with its LF
pub record StandsSilent (bytes : List ℕ) (size : ℕ) : Type 0 where
  pub line : List ℕ
  pub are : take size bytes ≡ line ++ 10 ∷ []
  pub within : size ≤ length bytes
  pub silent : IsSilent line

-- the bytes begin with so many whole lines of at most so many bytes each that say nothing, which have so many bytes
pub record BeginsSilent (longest : ℕ) (bytes : List ℕ) (size count : ℕ) : Type 0 where
  pub silent : List (List ℕ)
  pub are : take size bytes ≡ whole_lines silent
  pub within : size ≤ length bytes
  pub nothing : All (IsSkipped longest) silent
  pub counted : length silent ≡ count

-- only lines that say nothing were taken
pub record Skipped (old new : LineState) (before after : Option (List ℕ)) : Type 0 where
  pub skipped : List (List ℕ)
  pub nothing : All (IsSkipped (longest_line old.version)) skipped
  pub consumed : Consumes before after (whole_lines skipped)
  pub taken : new.taken ≡ old.taken + length (whole_lines skipped)
  pub count : new.count ≡ old.count + length skipped
  pub version : new.version ≡ old.version

-- lines that say nothing were taken, and then the bytes in which the next line that says something was looked for
pub record ReachesLine {T : Type 0} (result : Result T LineError) (old new : LineState) (before after : Option (List ℕ)) : Type 0 where
  pub skipped : List (List ℕ)
  pub bytes : List ℕ
  pub nothing : All (IsSkipped (longest_line old.version)) skipped
  pub consumed : Consumes before after (whole_lines skipped ++ bytes)
  pub short : old.taken + length (whole_lines skipped) ≤ 2 ^ 40
  pub ends : LineEnds result new.line (longest_line old.version) (2 ^ 40 - (old.taken + length (whole_lines skipped))) bytes
  pub said : OnOk result (says_nothing new.line ≡ false)
  pub taken : OnOk result (new.taken ≡ old.taken + length (whole_lines skipped) + length bytes)
  pub count : OnOk result (new.count ≡ old.count + length skipped + 1)
  pub count_before : OnErr result (new.count ≡ old.count + length skipped)
  pub version : new.version ≡ old.version

-- whether there was such a line, whatever else is said of it
abbrev pub reading_of : {T : Type 0} → Result T LineError → Result (Unit {0}) LineError
reading_of (Ok _) = Ok tt
reading_of (Err error) = Err error

-- what the bytes are in which the end of the text was looked for
abbrev pub TextEnds : {T : Type 0} → Result T LineError → ℕ → List ℕ → Type 0
TextEnds (Ok _) size bytes = bytes ≡ []
TextEnds (Err (Text TrailingText)) size bytes = (byte : ℕ) × (more : List ℕ) × (bytes ≡ byte ∷ more) × (size < 2 ^ 40)
TextEnds (Err (Text TextTooLong)) size bytes = (byte : ℕ) × (more : List ℕ) × (bytes ≡ byte ∷ more) × (size ≡ 2 ^ 40)
TextEnds (Err Read) size bytes = bytes ≡ []
TextEnds (Err Memory) size bytes = ⊥
TextEnds (Err (Text _)) size bytes = ⊥
