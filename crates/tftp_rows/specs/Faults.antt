-- Why a file is not told, or not to its end, and what each such fault rests on. That memory was refused for a row, or that a read failed, nothing shows.
use Rattle.std.specs.Prelude.{◌≡◌, ◌≤◌, ◌^◌, ◌-◌, ℕ, Bool, true, List, Option, Some}
use Rattle.audit_recording.specs.Session.Opened.{HasFrames, IsReadFaultOf}
use Rattle.tftp_rows.specs.declared.printing.PrintFault.{PrintFault}
use Rattle.tftp_rows.specs.declared.reading.TellFault.{TellFault}

-- ---- of a row, and of what else there is to tell

-- A row is not printed, or not whole: memory was refused, or a write to where rows are written has failed.
abbrev pub IsPrintFault : Bool → PrintFault → Type 0
IsPrintFault failed (PrintFault.Alloc error) = Unit {0}
IsPrintFault failed (PrintFault.Write error) = failed ≡ true

-- What else there is to tell of a file is not told: memory was refused, or a write on standard error has failed.
abbrev pub IsRemarkFault : Bool → TellFault → Type 0
IsRemarkFault unheard (TellFault.Alloc error) = Unit {0}
IsRemarkFault unheard (TellFault.Remark error) = unheard ≡ true
IsRemarkFault unheard _ = ⊥

-- ---- of a recording

-- so many of its frames were read as 64 bits count
abbrev pub HasManyFrames : Option (List ℕ) → Type 0
HasManyFrames file = HasFrames file (2 ^ 64 - 1)

-- A recording's transfers are not told, or not all: it is not read, or not to its end, for a reason that it gives; a row is not printed; so many were told as 64 bits
-- count; or it has as many frames.
abbrev pub IsTellFault : Option (List ℕ) → Bool → ℕ → TellFault → Type 0
IsTellFault file failed told (TellFault.Read fault) = IsReadFaultOf file fault
IsTellFault file failed told (TellFault.Print fault) = IsPrintFault failed fault
IsTellFault file failed told TellFault.TooMany = 2 ^ 64 - 1 ≤ told
IsTellFault file failed told TellFault.TooManyFrames = HasManyFrames file
IsTellFault file failed told _ = ⊥

-- ---- of a file, and the words that tell it

-- it does not open; or it is told up to this fault
pub data Why : Type 0 where
  Unopened : Why
  Stopped : TellFault → Why

-- the fault that is told came of this one; `gives` says what it becomes
abbrev pub IsToldFor : {F : Type 0} → (TellFault → F → Type 0) → Why → F → Type 0
IsToldFor gives Unopened told = Unit {0}
IsToldFor gives (Stopped fault) told = gives fault told

-- these words tell it: they are those of a fault that came of it
abbrev pub AreWordsOf : {F : Type 0} → (TellFault → F → Type 0) → (F → Option (List ℕ)) → Why → List ℕ → Type 0
AreWordsOf {F} gives output why words = (told : F) × IsToldFor gives why told × (output told ≡ Some words)
