-- What a reader of captures holds, and for what bytes and datagrams it stands.
use Rattle.std.specs.Prelude.{◌≡◌, ℕ, ◌+◌, ◌≤◌, ◌==◌, Bool, true, false, List, [], ◌∷◌, ◌++◌, length, Option, Some, None, Result, Ok, Err}
use Rattle.std.specs.Io.KnownBytes.{Consumes}
use Rattle.tftp_capture.specs.declared.fault.TextFault.TheVariants.{Truncated}
use Rattle.tftp_capture.specs.declared.fault.CaptureFault.{CaptureFault}
use Rattle.tftp_capture.specs.declared.fault.CaptureFault.TheVariants.{Text, Read, Memory}
use Rattle.tftp_capture.specs.declared.datagram.Datagram.{Datagram as Owned}
use Rattle.tftp_capture.specs.declared.version.Version.{Version}
use Rattle.std.specs.List.{slice_split}
use Rattle.tftp_capture.specs.CaptureText.{Datagram, Header, Numbered, Due, Stands, Unfinished, IsCapture, HasFault, said, head_line, end_line, service_line}
use Rattle.tftp_capture.specs.CaptureText.Due.{Body}
use Rattle.tftp_capture.specs.Lines.{LineState}
use Rattle.net_streams.specs.Streams.{most_ahead}
use Rattle.net_streams.specs.{Standing, Open, Over, Failed}
use Rattle.tftp_capture.specs.Fields.{datagram_of}

-- what contracts see of a reader: its header, its lines, how many datagrams it gave, the line of the last of them (or of
-- the service line), and whether it goes on
pub record ReaderState : Type 0 where
  pub header : Header
  pub lines : LineState
  pub count : ℕ
  pub handed : ℕ
  pub standing : Standing CaptureFault

-- the reader goes on: what was taken are whole lines, after which a datagram or the total is due
pub record GoesOn (header : Header) (state : LineState) (count : ℕ) (text : List ℕ) (datagrams : List Numbered) : Type 0 where
  pub lines : List (List ℕ)
  pub stands : Stands text lines [] (Body state.version header) datagrams
  pub line_count : state.count ≡ length lines
  pub byte_count : state.taken ≡ length text
  pub datagram_count : count ≡ length datagrams

-- what a fault says of the bytes that were taken and the datagrams that were given before it
abbrev pub FaultTells : CaptureFault → List ℕ → List Numbered → Type 0
FaultTells (Text line fault) text datagrams = HasFault text datagrams line fault
FaultTells (Read line) text datagrams = (due : Due) × Unfinished text datagrams line due
FaultTells (Memory line) text datagrams = Unit {0}

-- memory was refused for the datagram that the line says, the last of the whole lines that were taken
pub record SaysOneMore (text : List ℕ) (datagrams : List Numbered) (line : ℕ) : Type 0 where
  pub version : Version
  pub header : Header
  pub datagram : Datagram
  pub lines : List (List ℕ)
  pub stands : Stands text lines [] (Body version header) (datagrams ++ (line, datagram) ∷ [])
  pub at_line : line ≡ length lines

-- what being out of memory says of the bytes that were taken, and of the datagrams that were given before it
abbrev pub MemoryTells : CaptureFault → List ℕ → List Numbered → Type 0
MemoryTells (Text line fault) text datagrams = Unit {0}
MemoryTells (Read line) text datagrams = Unit {0}
MemoryTells (Memory line) text datagrams = SaysOneMore text datagrams line

-- the same of the answer of a reader that went on
abbrev pub WantTells : Standing CaptureFault → Result (Option Owned) CaptureFault → List ℕ → List Numbered → Type 0
WantTells Open (Ok _) text datagrams = Unit {0}
WantTells Open (Err fault) text datagrams = MemoryTells fault text datagrams
WantTells Over result text datagrams = Unit {0}
WantTells (Failed fault) result text datagrams = Unit {0}

-- Before the header was read memory is wanted for the first line alone, and then no byte was read.
abbrev pub FirstTells : CaptureFault → List ℕ → List ℕ → Type 0
FirstTells (Text line fault) text ahead = Unit {0}
FirstTells (Read line) text ahead = Unit {0}
FirstTells (Memory line) text ahead = (line ≡ 1) × (text ≡ []) × (ahead ≡ [])

-- The text is whole lines: the first line, the end line, and on line n the service line, before any other line that
-- says something.
pub record HasService (text : List ℕ) (header : Header) (n : ℕ) : Type 0 where
  pub version : Version
  pub lines : List (List ℕ)
  pub after_head : List (List ℕ)
  pub at_end : ℕ
  pub others : List (ℕ × List ℕ)
  pub divided : slice_split (λ b. b == 10) text ≡ lines ++ [] ∷ []
  pub begins : lines ≡ head_line version ∷ after_head
  pub are : said 2 after_head ≡ (at_end, end_line header.named) ∷ (n, service_line header.service) ∷ others

-- what the reader took and gave, by whether it goes on
abbrev pub StandingTells : Standing CaptureFault → ReaderState → List ℕ → List Numbered → Type 0
StandingTells Open reader text datagrams = GoesOn reader.header reader.lines reader.count text datagrams
StandingTells Over reader text datagrams = IsCapture text reader.header datagrams
StandingTells (Failed fault) reader text datagrams = FaultTells fault text datagrams

-- The reader stands for a history: it took the bytes of `text`, and gave the datagrams with the numbers of their lines.
abbrev pub StandsFor : ReaderState → List ℕ → List Numbered → Type 0
StandsFor reader text datagrams = StandingTells reader.standing reader text datagrams

-- whether a datagram was given
abbrev pub gave : {T : Type 0} → Result (Option T) CaptureFault → Result Bool CaptureFault
gave (Ok (Some d)) = Ok true
gave (Ok None) = Ok false
gave (Err fault) = Err fault

-- the datagrams with the one that was given, on that line
abbrev pub with_answer : List Numbered → ℕ → Result (Option Owned) CaptureFault → List Numbered
with_answer datagrams line (Ok (Some d)) = datagrams ++ (line, datagram_of d) ∷ []
with_answer datagrams line (Ok None) = datagrams
with_answer datagrams line (Err fault) = datagrams

-- what an answer says of the bytes that were taken with it and before it, and of the datagrams before it
abbrev pub AnswerTells : Result (Option Owned) CaptureFault → Header → LineState → ℕ → List ℕ → List Numbered → Type 0
AnswerTells (Ok (Some d)) header state count text datagrams = GoesOn header state (count + 1) text (datagrams ++ (state.count, datagram_of d) ∷ [])
AnswerTells (Ok None) header state count text datagrams = IsCapture text header datagrams
AnswerTells (Err fault) header state count text datagrams = FaultTells fault text datagrams

-- bytes were taken, of which and of the datagrams before it the answer tells
pub record Answers (before after : Option (List ℕ)) (result : Result (Option Owned) CaptureFault) (header : Header) (state : LineState) (count : ℕ) (text : List ℕ) (datagrams : List Numbered) : Type 0 where
  pub taken : List ℕ
  pub consumed : Consumes before after taken
  pub tells : AnswerTells result header state count (text ++ taken) datagrams
  pub memory : WantTells Open result (text ++ taken) datagrams

-- bytes were taken, and with them the reader stands for the history that the answer adds to
pub record Continues (old new : ReaderState) (before after : Option (List ℕ)) (result : Result (Option Owned) CaptureFault) (text : List ℕ) (datagrams : List Numbered) : Type 0 where
  pub taken : List ℕ
  pub consumed : Consumes before after taken
  pub stands : StandsFor new (text ++ taken) (with_answer datagrams new.handed result)
  pub memory : WantTells old.standing result (text ++ taken) datagrams

-- whether a fault, or the answer of a reader that has stopped, is that a read failed
abbrev pub IsReadFault : CaptureFault → Type 0
IsReadFault (Text line fault) = ⊥
IsReadFault (Read line) = Unit {0}
IsReadFault (Memory line) = ⊥

abbrev pub IsReadStanding : Standing CaptureFault → Type 0
IsReadStanding Open = ⊥
IsReadStanding Over = ⊥
IsReadStanding (Failed fault) = IsReadFault fault

-- whether a fault is one that only the text's end shows
abbrev pub IsAtTextEnd : CaptureFault → Type 0
IsAtTextEnd (Text line fault) = fault ≡ Truncated
IsAtTextEnd (Read line) = ⊥
IsAtTextEnd (Memory line) = ⊥

-- bytes were taken in which a header was looked for, and some more were read ahead, but none where a read failed or the
-- text has ended, and never more than a reader reads ahead
pub record FailsToBegin (before after : Option (List ℕ)) (fault : CaptureFault) : Type 0 where
  pub taken : List ℕ
  pub ahead : List ℕ
  pub consumed : Consumes before after (taken ++ ahead)
  pub tells : FaultTells fault taken []
  pub drained : IsReadFault fault → ahead ≡ []
  pub ended : IsAtTextEnd fault → ahead ≡ []
  pub near : length ahead ≤ most_ahead
  pub memory : FirstTells fault taken ahead
