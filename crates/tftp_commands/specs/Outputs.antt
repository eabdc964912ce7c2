-- What is printed, and the status that goes with it. Each line ends by LF.
use Rattle.std.specs.Prelude.{◌≡◌, ℕ, ◌++◌, List, [], Bool, true, false, codes, decimal, Option}
use Rattle.std.specs.Io.KnownBytes.{Appends}
use Rattle.tftp_capture.specs.{CaptureFault}
use Rattle.net_streams.specs.Streams.{AppendsPrefix, Sink}
use Rattle.tftp_capture.specs.declared.fault.CaptureFault.TheVariants.{Text, Read, Memory}
use Rattle.tftp_commands.specs.declared.status.Status.{Status}
use Rattle.tftp_commands.specs.declared.status.Status.TheVariants as status
use Rattle.tftp_commands.specs.Names.{text_fault_name}

pub record Output : Type 0 where
  pub bytes : List ℕ
  pub status : Status

abbrev pub code_of : Status → ℕ
code_of status.Success = 0
code_of status.Refused = 1
code_of status.Fault = 2

-- ---- the lines of faults

abbrev pub memory_line : List ℕ
memory_line = codes "fault memory\n"

abbrev pub usage_line : List ℕ
usage_line = codes "fault usage\n"

abbrev pub fault_line : CaptureFault → List ℕ
fault_line (Text line fault) = codes "fault line " ++ decimal line ++ codes " " ++ text_fault_name fault ++ codes "\n"
fault_line (Read line) = codes "fault line " ++ decimal line ++ codes " Read\n"
fault_line (Memory line) = memory_line

-- ---- what a writer was given

-- The output was appended to what the writer holds, and its status is the run's. Where a write failed, a part of it
-- was, from its start and not all, and the status is that of a fault.
abbrev pub IsWritten : Option (List ℕ) → Option (List ℕ) → Bool → Output → Status → Type 0
IsWritten old new false output result = Appends old new output.bytes × (result ≡ output.status)
IsWritten old new true output result = AppendsPrefix old new output.bytes × (result ≡ status.Fault)

-- the same of what a writer of lines holds, in which nothing waits then
abbrev pub Prints : {W : Type 0} → (W → Option (List ℕ)) → Sink W → Sink W → Output → Status → Type 0
Prints contents old new output result = IsWritten (contents old.inner) (contents new.inner) new.failed output result × (new.failed ≡ false → new.waits ≡ [])
