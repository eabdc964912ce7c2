-- The lines of faults, in the pieces that are written.
use Rattle.std.proofs.Common.{◌≡◌, ℕ, List, ◌++◌, codes, decimal, append_assoc}
use Rattle.tftp_capture.specs.{TextFault}
use Rattle.tftp_capture.specs.declared.fault.CaptureFault.TheVariants.{Text, Read}
use Rattle.tftp_commands.specs.{text_fault_name, fault_line}

pub text_pieces : (line : ℕ) (fault : TextFault) (number name : List ℕ) → number ≡ decimal line → name ≡ text_fault_name fault
    → codes "fault line " ++ (number ++ (codes " " ++ (name ++ codes "\n"))) ≡ fault_line (Text line fault)
text_pieces line fault number name e f = rw (e, f) (simp append_assoc)

pub read_pieces : (line : ℕ) (number : List ℕ) → number ≡ decimal line → codes "fault line " ++ (number ++ codes " Read\n") ≡ fault_line (Read line)
read_pieces line number e = rw e (simp append_assoc)
