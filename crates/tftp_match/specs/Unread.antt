-- Why a capture is not read, what each such fault rests on, and what is told of it. That memory was refused, or that a read failed, nothing
-- shows.
use Rattle.std.specs.Prelude.{◌≡◌, ℕ, Bool, true, List, [], Option, Some, IfSome}
use Rattle.std.specs.Io.KnownBytes.{Appends}
use Rattle.tftp_capture.specs.{CaptureFault, HasFault}
use Rattle.audit_recording.specs.Session.Headed.{is_recording}
use Rattle.audit_recording.specs.Session.Opened.{IsReadFaultOf}
use Rattle.tftp_rows.specs.Remarks.{remark_text}
use Rattle.tftp_match.specs.declared.unread.UnreadFault.{UnreadFault}

-- ---- of a file

-- Its first bytes tell that it is a recording, and it is not read as one, for a reason that it gives.
abbrev pub IsFileFault : Option (List ℕ) → UnreadFault → Type 0
IsFileFault file (UnreadFault.Alloc error) = Unit {0}
IsFileFault file (UnreadFault.Input error) = Unit {0}
IsFileFault file (UnreadFault.Recording fault) = IfSome file (λ bytes. is_recording bytes ≡ true) × IsReadFaultOf file fault
IsFileFault file (UnreadFault.Text fault) = ⊥

-- ---- of a text

-- its bytes have this fault, on that line, and before it no datagram
abbrev pub IsTextFault : List ℕ → CaptureFault → Type 0
IsTextFault bytes (CaptureFault.Text line fault) = HasFault bytes [] line fault
IsTextFault bytes (CaptureFault.Read line) = Unit {0}
IsTextFault bytes (CaptureFault.Memory line) = Unit {0}

-- Its first datagram is wanted, and is not read, since its bytes have a fault.
abbrev pub IsHeldFault : Bool → Option (List ℕ) → UnreadFault → Type 0
IsHeldFault wanted held (UnreadFault.Alloc error) = Unit {0}
IsHeldFault wanted held (UnreadFault.Input error) = Unit {0}
IsHeldFault wanted held (UnreadFault.Recording fault) = ⊥
IsHeldFault wanted held (UnreadFault.Text fault) = (wanted ≡ true) × IfSome held (λ bytes. IsTextFault bytes fault)

-- ---- what is told

-- these words tell a fault: they are those of what came of it; `gives` says what may, and `output` which words that has
abbrev pub AreWordsOf : {F : Type 0} → (UnreadFault → F → Type 0) → (F → Option (List ℕ)) → UnreadFault → List ℕ → Type 0
AreWordsOf {F} gives output fault words = (told : F) × gives fault told × (output told ≡ Some words)

-- such words came in a line behind the names of the program and the file
abbrev pub IsToldAs : (List ℕ → Type 0) → List ℕ → List ℕ → Option (List ℕ) → Option (List ℕ) → Type 0
IsToldAs AreWords program name before after = (words : List ℕ) × AreWords words × Appends before after (remark_text program name words)

-- a fault is told, which is one of this kind
abbrev pub IsUnreadTold : (UnreadFault → List ℕ → Type 0) → (UnreadFault → Type 0) → List ℕ → List ℕ → Option (List ℕ) → Option (List ℕ) → Type 0
IsUnreadTold AreWords IsOne program name before after = (fault : UnreadFault) × IsOne fault × IsToldAs (AreWords fault) program name before after
