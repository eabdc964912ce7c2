-- The words of a command line.
use Rattle.std.specs.Prelude.{◌≡◌, ℕ, List, [], ◌∷◌, Option, None, Some, codes}
use Rattle.clap.specs.Simple.{App, new_app, with_subcommand}
use Rattle.tftp_packet.specs.{Rollover, Zero, One}
use Rattle.tftp_commands.specs.declared.words.Action.{Action}
use Rattle.tftp_commands.specs.declared.words.Action.TheVariants.{Check, Extract, Normal, Show, Count}
use Rattle.tftp_commands.specs.declared.words.UsageFault.{UsageFault}
use Rattle.tftp_commands.specs.declared.words.UsageFault.TheVariants as usage

-- the word that names a command
abbrev pub name_of : Action → List ℕ
name_of (Check rollover) = codes "check"
name_of (Extract rollover) = codes "extract"
name_of (Normal rollover) = codes "normal"
name_of (Show rollover) = codes "show"
name_of (Count rollover) = codes "count"

-- what comes after block 65535
abbrev pub rollover_of : Action → Option Rollover
rollover_of (Check rollover) = rollover
rollover_of (Extract rollover) = rollover
rollover_of (Normal rollover) = rollover
rollover_of (Show rollover) = rollover
rollover_of (Count rollover) = rollover

-- the number that comes after 65535
abbrev pub digit_of : Rollover → List ℕ
digit_of Zero = codes "0"
digit_of One = codes "1"

abbrev pub option_words : Option Rollover → List (List ℕ)
option_words None = []
option_words (Some rollover) = codes "--rollover" ∷ digit_of rollover ∷ []

-- the words are the program's name, whatever it is, that of the command, and what comes after block 65535 where anything does
abbrev pub IsCommand : Action → List (List ℕ) → Type 0
IsCommand action words = (program : List ℕ) × (words ≡ program ∷ name_of action ∷ option_words (rollover_of action))

abbrev pub IsNoCommand : List (List ℕ) → Type 0
IsNoCommand words = (action : Action) → IsCommand action words → ⊥

-- how it is told that memory ran out for a command's words: beside a file or a normal text nothing is said
abbrev pub memory_fault : Action → UsageFault
memory_fault (Check rollover) = usage.Memory
memory_fault (Extract rollover) = usage.Silent
memory_fault (Normal rollover) = usage.Silent
memory_fault (Show rollover) = usage.Memory
memory_fault (Count rollover) = usage.Memory

-- a command line with one command more
abbrev pub with_command : App → List ℕ → App
with_command app name = with_subcommand app (new_app name).top

-- what the command line may be
abbrev pub audit_app : App
audit_app =
    with_command (with_command (with_command (with_command (with_command (new_app (codes "tftp-audit")) (codes "check")) (codes "extract")) (codes "normal")) (codes "show")) (codes "count")
