-- What `check` prints of a capture text: one line, with what its datagrams mean, or why it is not accepted.
use Rattle.std.specs.Prelude.{ℕ, ◌++◌, List, [], length, codes, decimal, Option, Result, Ok, Err}
use Rattle.tftp_packet.specs.{Rollover, mode_name}
use Rattle.law_model.specs.Model.{Meaning}
use Rattle.law_end.specs.{blocks_of, rule_name, number_of, Rule, Malformed}
use Rattle.tftp_judge.specs.{Refusal, Unlawful, Aborted, Incomplete, NormalTooLong, Verdict, Capture, Refused}
use Rattle.tftp_judge.specs.declared.refusal.Refusal.TheVariants.{Memory}
use Rattle.tftp_commands.specs.declared.status.Status.{Status}
use Rattle.tftp_commands.specs.declared.status.Status.TheVariants as status
use Rattle.tftp_commands.specs.Judged.{IsToldBy}
use Rattle.tftp_commands.specs.Names.{by_name, packet_fault_name, side_name}
use Rattle.tftp_commands.specs.Outputs.{Output, fault_line, memory_line}
use Rattle.tftp_commands.specs.Sources.{Source}

-- the blocks are those of the canonical wire, the bytes those of the file
abbrev pub accepted_line : Meaning → List ℕ
accepted_line m =
    codes "accepted " ++ side_name m.side ++ codes " " ++ mode_name m.mode ++ codes " blocks " ++ decimal (blocks_of m) ++ codes " bytes " ++ decimal (length m.file) ++ codes "\n"

-- what stands behind a rule's name
abbrev pub detail : Rule → List ℕ
detail (Malformed fault) = codes " " ++ packet_fault_name fault
detail _ = []

abbrev pub refusal_line : Refusal → List ℕ
refusal_line (Unlawful index rule) = codes "refused datagram " ++ decimal index ++ codes " rule " ++ decimal (number_of rule) ++ codes " " ++ rule_name rule ++ detail rule ++ codes "\n"
refusal_line (Aborted by code) = codes "aborted by " ++ by_name by ++ codes " code " ++ decimal code ++ codes "\n"
refusal_line (Incomplete count) = codes "incomplete after " ++ decimal count ++ codes "\n"
refusal_line NormalTooLong = codes "too long when normal\n"
refusal_line (Memory count) = memory_line

abbrev pub verdict_line : Verdict → List ℕ
verdict_line (Capture fault) = fault_line fault
verdict_line (Refused refusal) = refusal_line refusal

-- 2 where the text has a fault, a read failed or memory ran out, and 1 where its datagrams are refused
abbrev pub verdict_status : Verdict → Status
verdict_status (Capture fault) = status.Fault
verdict_status (Refused (Unlawful index rule)) = status.Refused
verdict_status (Refused (Aborted by code)) = status.Refused
verdict_status (Refused (Incomplete count)) = status.Refused
verdict_status (Refused NormalTooLong) = status.Refused
verdict_status (Refused (Memory count)) = status.Fault

abbrev pub checked : Result Meaning Verdict → Output
checked (Ok m) = record { bytes = accepted_line m; status = status.Success }
checked (Err verdict) = record { bytes = verdict_line verdict; status = verdict_status verdict }

-- the output is that of what there is to say of what was read
abbrev pub IsChecked : Option Rollover → Source → Output → Type 0
IsChecked rollover = IsToldBy rollover checked
