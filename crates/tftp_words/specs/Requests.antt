-- What the words of `tftp-transfers` ask for.
use Rattle.std.specs.Prelude.{◌≡◌, ◌≢◌, ◌⊎◌, ⊤, ◌≤◌, ℕ, List, [], ◌∷◌, length, map, Bool, false, Option, Some, None, codes}
use Rattle.tftp_packet.specs.{End, Rollover}
use Rattle.tftp_words.specs.declared.point.Point.{Point}
use Rattle.tftp_words.specs.declared.request.Request.{Request}
use Rattle.tftp_words.specs.declared.request.Request.TheVariants as code
use Rattle.tftp_words.specs.declared.request.Command.{Command}
use Rattle.tftp_words.specs.declared.request.Command.TheVariants as command
use Rattle.tftp_words.specs.Parts.{Word, Part, Say, Have, Choose, IsTransfer, end_word}

-- the transfers of a recording; the text of one at an end; the texts of all at an end; the verdicts on those of recordings
pub data Asked : Type 0 where
  Listed : (services : List ℕ) (json : Bool) (file : Word) → Asked
  Written : (number : ℕ) (end : End) (services : List ℕ) (file : Word) → Asked
  AllWritten : (end : End) (services : List ℕ) (file : Word) → Asked
  Judged : (at : Option Point) (rollover : Option Rollover) (services : List ℕ) (json : Bool) (files : List Word) → Asked

-- Numbers that begin again after block 65535 are judged where it is said where the recording was made: at an end, or between the two.
abbrev pub IsJudgedAt : Option Rollover → Option Point → Type 0
IsJudgedAt None at = ⊤
IsJudgedAt (Some rollover) (Some at) = ⊤
IsJudgedAt _ _ = ⊥

-- the parts have what is asked
abbrev pub Fits : Asked → List Part → Type 0
Fits (Listed services json file) ps = Have ps services json None None (file ∷ [])
Fits (Written number end services file) ps =
    (text : Word) × IsTransfer text number × Have ps services false None None (text ∷ end_word end ∷ file ∷ [])
Fits (AllWritten end services file) ps = Have ps services false None None (end_word end ∷ file ∷ [])
Fits (Judged at rollover services json files) ps = (1 ≤ length files) × IsJudgedAt rollover at × Have ps services json at rollover files

-- the parts are the arguments of what is asked: none of them chooses what `tftp-match` alone can be asked for
abbrev pub Argues : Asked → List Part → Type 0
Argues asked ps = Choose ps false None None × Fits asked ps

-- a word that names no command
abbrev pub IsNoName : Word → Type 0
IsNoName word = (word ≢ codes "list") × (word ≢ codes "text") × (word ≢ codes "texts") × (word ≢ codes "check") × (word ≢ codes "--check")
    × (word ≢ codes "help")

-- the words are the program's name, whatever it is, the command and its arguments; `list` may be left out
abbrev pub IsCommandLine : Asked → List Word → List Word → Type 0
IsCommandLine (Listed services json file) arguments words =
    (program : Word) × ((words ≡ program ∷ codes "list" ∷ arguments)
    ⊎ ((word : Word) × (rest : List Word) × IsNoName word × (arguments ≡ word ∷ rest) × (words ≡ program ∷ arguments)))
IsCommandLine (Written number end services file) arguments words = (program : Word) × (words ≡ program ∷ codes "text" ∷ arguments)
IsCommandLine (AllWritten end services file) arguments words = (program : Word) × (words ≡ program ∷ codes "texts" ∷ arguments)
IsCommandLine (Judged at rollover services json files) arguments words =
    (program : Word) × ((words ≡ program ∷ codes "check" ∷ arguments) ⊎ (words ≡ program ∷ codes "--check" ∷ arguments))

-- the words ask for this
abbrev pub IsRequest : Asked → List Word → Type 0
IsRequest asked words = (arguments : List Word) × IsCommandLine asked arguments words × (ps : List Part) × Say arguments ps × Argues asked ps

-- ---- what the code holds

-- the second of the words tells the command, before whose arguments so many words stand
abbrev pub Names : Word → Command → ℕ → Type 0
Names word command.List count = ((count ≡ 2) × (word ≡ codes "list")) ⊎ ((count ≡ 1) × IsNoName word)
Names word command.Text count = (count ≡ 2) × (word ≡ codes "text")
Names word command.Texts count = (count ≡ 2) × (word ≡ codes "texts")
Names word command.Check count = (count ≡ 2) × ((word ≡ codes "check") ⊎ (word ≡ codes "--check"))

abbrev pub Calls : Command → Asked → Type 0
Calls command.List (Listed services json file) = ⊤
Calls command.Text (Written number end services file) = ⊤
Calls command.Texts (AllWritten end services file) = ⊤
Calls command.Check (Judged at rollover services json files) = ⊤
Calls _ _ = ⊥

abbrev pub asked : Request → Asked
asked (code.List r) = Listed r.services.items r.json r.file.now
asked (code.Text r) = Written r.number r.end r.services.items r.file.now
asked (code.Texts r) = AllWritten r.end r.services.items r.file.now
asked (code.Check r) = Judged r.end r.rollover r.services.items r.json (map (λ file. file.now) r.files.items)
