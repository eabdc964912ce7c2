-- What `count` prints of a capture text: one line, with how many datagrams its normal capture has, or why it is not
-- accepted.
use Rattle.std.specs.Prelude.{ℕ, ◌++◌, List, codes, decimal, Option, Result, Ok, Err}
use Rattle.tftp_packet.specs.{Rollover}
use Rattle.law_model.specs.Model.{Meaning}
use Rattle.tftp_judge.specs.{Verdict}
use Rattle.tftp_normal.specs.{normal_count}
use Rattle.tftp_commands.specs.declared.status.Status.TheVariants as status
use Rattle.tftp_commands.specs.Checked.{checked}
use Rattle.tftp_commands.specs.Judged.{IsToldBy}
use Rattle.tftp_commands.specs.Outputs.{Output}
use Rattle.tftp_commands.specs.Sources.{Source}

abbrev pub counted_line : Meaning → List ℕ
counted_line m = codes "normal datagrams " ++ decimal (normal_count m) ++ codes "\n"

-- of a text that is not accepted the line and the status of `check`
abbrev pub counted : Result Meaning Verdict → Output
counted (Ok m) = record { bytes = counted_line m; status = status.Success }
counted (Err verdict) = checked (Err verdict)

-- the output is that of what there is to say of what was read
abbrev pub IsCounted : Option Rollover → Source → Output → Type 0
IsCounted rollover = IsToldBy rollover counted
