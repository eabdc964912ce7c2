-- The line of the verdict on a capture text is words of ASCII and LF.
use Rattle.std.proofs.Common.{◌++◌, Result, Ok, Err, append_assoc, codes, decimal, refl, rules, sym}
use Rattle.tftp_capture.specs.{CaptureFault, TextFault, BadHeader, BadEnd, BadService, LineTooLong, BadLine, BadPort, BadHost, BadHex, PayloadTooLong, TotalWrong, Truncated, TrailingText, TextTooLong}
use Rattle.tftp_capture.specs.declared.fault.CaptureFault.TheVariants.{Text, Read, Memory}
use Rattle.law_model.specs.Model.{Meaning}
use Rattle.tftp_judge.specs.{Verdict, Capture, Refused}
use Rattle.tftp_commands.specs.{checked}
use Rattle.tftp_commands.specs.Names.{text_fault_name}
use Rattle.tftp_rows.proofs.VerdictLines.{IsLine, IsPlain, accepted, add, decimals, literal, refused}

fault_names : (fault : TextFault) → IsPlain (text_fault_name fault)
fault_names BadHeader = literal (text_fault_name BadHeader) refl
fault_names BadEnd = literal (text_fault_name BadEnd) refl
fault_names BadService = literal (text_fault_name BadService) refl
fault_names LineTooLong = literal (text_fault_name LineTooLong) refl
fault_names BadLine = literal (text_fault_name BadLine) refl
fault_names BadPort = literal (text_fault_name BadPort) refl
fault_names BadHost = literal (text_fault_name BadHost) refl
fault_names BadHex = literal (text_fault_name BadHex) refl
fault_names PayloadTooLong = literal (text_fault_name PayloadTooLong) refl
fault_names TotalWrong = literal (text_fault_name TotalWrong) refl
fault_names Truncated = literal (text_fault_name Truncated) refl
fault_names TrailingText = literal (text_fault_name TrailingText) refl
fault_names TextTooLong = literal (text_fault_name TextTooLong) refl

faults : (fault : CaptureFault) → IsLine ((checked (Err (Capture fault))).bytes)
faults (Text line fault) = record {
  words = codes "fault line " ++ decimal line ++ codes " " ++ text_fault_name fault;
  line = search rules;
  is_plain = add (add (add (literal (codes "fault line ") refl) (decimals line)) (literal (codes " ") refl)) (fault_names fault);
}
faults (Read line) = record {
  words = codes "fault line " ++ decimal line ++ codes " Read";
  line = sym (append_assoc (codes "fault line " ++ decimal line) (codes " Read") (codes "\n"));
  is_plain = add (add (literal (codes "fault line ") refl) (decimals line)) (literal (codes " Read") refl);
}
faults (Memory line) = record { words = codes "fault memory"; line = refl; is_plain = literal (codes "fault memory") refl }

pub checked_lines : (said : Result Meaning Verdict) → IsLine ((checked said).bytes)
checked_lines (Ok m) = accepted m
checked_lines (Err (Refused refusal)) = refused refusal
checked_lines (Err (Capture fault)) = faults fault
