-- When an output is the only one: where memory was not wanting.
use Rattle.std.specs.Prelude.{◌≡◌, ◌⊎◌, ℕ, ◌++◌, List, [], ◌∷◌, codes, Result}
use Rattle.tftp_packet.specs.{Out}
use Rattle.tftp_packet.specs.Hosts.{no_host}
use Rattle.tftp_capture.specs.CaptureText.{Datagram, Header}
use Rattle.tftp_capture.specs.{Begins, BeginsWith, Numbered, line}
use Rattle.tftp_capture.specs.declared.fault.CaptureFault.TheVariants.{Memory}
use Rattle.law_model.specs.Model.{Meaning}
use Rattle.tftp_judge.specs.{IsOfText, SaysReadFailed, Verdict}
use Rattle.tftp_commands.specs.declared.status.Status.TheVariants as status
use Rattle.tftp_commands.specs.declared.words.Action.{Action}
use Rattle.tftp_commands.specs.declared.words.Action.TheVariants.{Check, Extract, Normal, Show, Count}
use Rattle.tftp_commands.specs.Outputs.{Output, memory_line}
use Rattle.tftp_commands.specs.Shown.{Ending, Faulty}
use Rattle.tftp_commands.specs.Sources.{HasRead, Source}
use Rattle.tftp_commands.specs.Words.{IsCommand}

-- said of the text, or that a read failed, and not that memory ran out
abbrev pub SaysNoMemory : Result Meaning Verdict → Type 0
SaysNoMemory said = IsOfText said ⊎ SaysReadFailed said

-- any ending but being out of memory
abbrev pub IsNoMemoryEnding : Ending → Type 0
IsNoMemoryEnding (Faulty (Memory line)) = ⊥
IsNoMemoryEnding _ = Unit {0}

-- ---- for what memory may be wanted

-- no byte was read, or none need have been of a text that was given whole
abbrev pub IsUnread : Source → Type 0
IsUnread source = HasRead source.extent source.read []

-- the text says a datagram
abbrev pub HasDatagram : List ℕ → Type 0
HasDatagram text = (header : Header) × (datagrams : List Numbered) × (last : Numbered) × Begins text header (datagrams ++ last ∷ [])

-- those that were shown are not all: the next one is on this line
abbrev pub IsLeft : List Numbered → ℕ → List Numbered → Type 0
IsLeft shown line all = (datagram : Datagram) × BeginsWith all (shown ++ (line, datagram) ∷ [])

-- a text of no datagram
abbrev pub empty_text : List ℕ
empty_text = line (codes "tftp-capture 1") ++ line (codes "end client") ++ line (codes "service 69") ++ line (codes "total 0")

-- a text up to its first datagram, whose payload is empty
abbrev pub first_text : List ℕ
first_text = line (codes "tftp-capture 1") ++ line (codes "end client") ++ line (codes "service 69") ++ line (codes "out 40000 69 -")

abbrev pub first_datagram : Datagram
first_datagram = record { dir = Out; local = 40000; host = no_host; remote = 69; payload = [] }

-- ---- what is told of it

-- the output of a command for which memory ran out: beside a file or a normal text nothing is said, and what is shown
-- ends with it
abbrev pub IsMemoryOutput : Action → Output → Type 0
IsMemoryOutput (Check rollover) output = output ≡ record { bytes = memory_line; status = status.Fault }
IsMemoryOutput (Extract rollover) output = output ≡ record { bytes = []; status = status.Fault }
IsMemoryOutput (Normal rollover) output = output ≡ record { bytes = []; status = status.Fault }
IsMemoryOutput (Show rollover) output = (lines : List ℕ) × (output ≡ record { bytes = lines ++ memory_line; status = status.Fault })
IsMemoryOutput (Count rollover) output = output ≡ record { bytes = memory_line; status = status.Fault }

-- the same of the command that the words name
abbrev pub TellsOfMemory : List (List ℕ) → Output → Type 0
TellsOfMemory words output = (action : Action) × IsCommand action words × IsMemoryOutput action output
