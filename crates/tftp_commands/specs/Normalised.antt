-- What `normal` writes of a capture text: its normal text, and nothing where it is not accepted.
use Rattle.std.specs.Prelude.{◌≡◌, [], Option, Result, Ok, Err}
use Rattle.tftp_packet.specs.{Rollover}
use Rattle.law_model.specs.Model.{Meaning}
use Rattle.tftp_judge.specs.{Verdict}
use Rattle.tftp_normal.specs.{normal_text_by}
use Rattle.tftp_commands.specs.declared.status.Status.TheVariants as status
use Rattle.tftp_commands.specs.Checked.{verdict_status}
use Rattle.tftp_commands.specs.Judged.{IsJudged, IsToldBy}
use Rattle.tftp_commands.specs.Outputs.{Output}
use Rattle.tftp_commands.specs.Sources.{Source}

-- the status is that of `check`
abbrev pub normalised : Option Rollover → Result Meaning Verdict → Output
normalised rollover (Ok m) = record { bytes = normal_text_by rollover m; status = status.Success }
normalised rollover (Err verdict) = record { bytes = []; status = verdict_status verdict }

-- the output is that of what there is to say of what was read
abbrev pub IsNormalised : Option Rollover → Source → Output → Type 0
IsNormalised rollover = IsToldBy rollover (normalised rollover)

-- memory ran out for writing the normal text of what is accepted: nothing was written
abbrev pub IsUnwritten : Option Rollover → Source → Output → Type 0
IsUnwritten rollover source output = (m : Meaning) × IsJudged rollover source (Ok m) × (output ≡ record { bytes = []; status = status.Fault })
