-- What `extract` writes of a capture text: its file, and nothing where it is not accepted.
use Rattle.std.specs.Prelude.{[], Option, Result, Ok, Err}
use Rattle.tftp_packet.specs.{Rollover}
use Rattle.law_model.specs.Model.{Meaning}
use Rattle.tftp_judge.specs.{Verdict}
use Rattle.tftp_commands.specs.declared.status.Status.TheVariants as status
use Rattle.tftp_commands.specs.Checked.{verdict_status}
use Rattle.tftp_commands.specs.Judged.{IsToldBy}
use Rattle.tftp_commands.specs.Outputs.{Output}
use Rattle.tftp_commands.specs.Sources.{Source}

-- the status is that of `check`
abbrev pub extracted : Result Meaning Verdict → Output
extracted (Ok m) = record { bytes = m.file; status = status.Success }
extracted (Err verdict) = record { bytes = []; status = verdict_status verdict }

-- the output is that of what there is to say of what was read
abbrev pub IsExtracted : Option Rollover → Source → Output → Type 0
IsExtracted rollover = IsToldBy rollover extracted
