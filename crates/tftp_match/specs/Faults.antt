-- Why no pair of transfers is chosen.
use Rattle.std.specs.Prelude.{ℕ}
use Rattle.tftp_packet.specs.{Client, Server}
use Rattle.audit_recording.specs.declared.session.fault.TextFault.{TextFault}
use Rattle.tftp_match.specs.declared.choosing.ChoiceFault.{ChoiceFault}
use Rattle.tftp_match.specs.declared.choosing.ChoiceFault.TheVariants.{Alloc, Memory, Text}
use Rattle.tftp_match.specs.declared.texts.LackFault.{LackFault}

-- why a transfer has no text, as `Lacks` says it; or memory ran out
abbrev pub IsLack : (TextFault → Type 0) → LackFault → Type 0
IsLack Lacks LackFault.Memory = Unit {0}
IsLack Lacks (LackFault.Text fault) = Lacks fault

-- Why a pair is not judged: memory ran out, or its transfer at that end has no text.
abbrev pub IsUnjudged : (ℕ → TextFault → Type 0) → (ℕ → TextFault → Type 0) → ℕ × ℕ → ChoiceFault → Type 0
IsUnjudged client server pair (Text Client fault) = IsLack (client pair.0) fault
IsUnjudged client server pair (Text Server fault) = IsLack (server pair.1) fault
IsUnjudged client server pair (Alloc e) = Unit {0}
IsUnjudged client server pair Memory = Unit {0}

-- Why nothing is chosen: memory ran out, or some transfer at that end has no text.
abbrev pub IsUnchosen : (ℕ → TextFault → Type 0) → (ℕ → TextFault → Type 0) → ChoiceFault → Type 0
IsUnchosen client server (Text Client fault) = (number : ℕ) × IsLack (client number) fault
IsUnchosen client server (Text Server fault) = (number : ℕ) × IsLack (server number) fault
IsUnchosen client server (Alloc e) = Unit {0}
IsUnchosen client server Memory = Unit {0}

-- memory ran out
abbrev pub IsOfMemory : ChoiceFault → Type 0
IsOfMemory (Text end fault) = ⊥
IsOfMemory (Alloc e) = Unit {0}
IsOfMemory Memory = Unit {0}
