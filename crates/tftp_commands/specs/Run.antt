-- What a run of the program writes, by its words and by what it was given.
use Rattle.std.specs.Prelude.{◌≡◌, ◌⊎◌, ℕ, List, Bool}
use Rattle.tftp_commands.specs.declared.status.Status.TheVariants as status
use Rattle.tftp_commands.specs.declared.words.Action.{Action}
use Rattle.tftp_commands.specs.declared.words.Action.TheVariants.{Check, Extract, Normal, Show, Count}
use Rattle.tftp_commands.specs.Checked.{IsChecked}
use Rattle.tftp_commands.specs.Counted.{IsCounted}
use Rattle.tftp_commands.specs.Extracted.{IsExtracted}
use Rattle.tftp_commands.specs.Normalised.{IsNormalised, IsUnwritten}
use Rattle.tftp_commands.specs.Outputs.{Output, usage_line}
use Rattle.tftp_commands.specs.Shown.{IsShown}
use Rattle.tftp_commands.specs.Sources.{Source}
use Rattle.tftp_commands.specs.Words.{IsCommand, IsNoCommand}

-- the output that there may be of a command, where `cut` says whether a write failed
abbrev pub IsOutputOf : Action → Source → Bool → Output → Type 0
IsOutputOf (Check rollover) source cut output = IsChecked rollover source output
IsOutputOf (Extract rollover) source cut output = IsExtracted rollover source output
IsOutputOf (Normal rollover) source cut output = IsNormalised rollover source output ⊎ IsUnwritten rollover source output
IsOutputOf (Show rollover) source cut output = IsShown rollover source cut output
IsOutputOf (Count rollover) source cut output = IsCounted rollover source output

-- that the words are no command
abbrev pub IsRefused : Output → Type 0
IsRefused output = output ≡ record { bytes = usage_line; status = status.Fault }

-- the output that there may be of the words
pub record IsOutput (words : List (List ℕ)) (source : Source) (cut : Bool) (output : Output) : Type 0 where
  pub command : (action : Action) → IsCommand action words → IsOutputOf action source cut output
  pub none : IsNoCommand words → IsRefused output
