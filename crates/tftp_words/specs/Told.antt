-- What is told of words that make no request.
use Rattle.std.specs.Prelude.{◌≡◌, ◌≢◌, ◌⊎◌, ⊤}
use Rattle.clap.specs.Words.{kind_of}
use Rattle.clap.specs.declared.error.kind.ErrorKind.TheVariants as kind
use Rattle.tftp_words.specs.declared.words.WordsFault.{WordsFault}
use Rattle.tftp_words.specs.declared.words.WordsFault.TheVariants as fault

-- clap's text answers a call for help or for the version, or it says what is wrong
abbrev pub IsTold : WordsFault → Type 0
IsTold (fault.Asked e) = (kind_of e ≡ kind.DisplayHelp) ⊎ (kind_of e ≡ kind.DisplayVersion)
IsTold (fault.Wrong e) = (kind_of e ≢ kind.DisplayHelp) × (kind_of e ≢ kind.DisplayVersion) × (kind_of e ≢ kind.OutOfMemory)
IsTold fault.Memory = ⊤
