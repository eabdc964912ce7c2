-- What is told on standard error where no pair of transfers is taken, as exact text.
use Rattle.std.specs.Prelude.{◌++◌, ℕ, Bool, true, false, not, List, [], ◌∷◌, Option, Some, None, codes, decimal, flat_map, if◌then◌else◌, is_some, option_map}
use Rattle.audit_recording.specs.declared.session.requests.Asked.{Asked}
use Rattle.tftp_rows.specs.Remarks.{remark_text}
use Rattle.tftp_match.specs.Choice.{matched_in, most_pairs}
use Rattle.tftp_match.specs.declared.choice.Tried.{Tried}
use Rattle.tftp_match.specs.declared.choice.Untaken.{Untaken}
use Rattle.tftp_match.specs.declared.choice.Untaken.TheVariants.{NotAlone, TooMany}
use Rattle.tftp_match.specs.declared.choosing.Side.{Side}
use Rattle.tftp_match.specs.declared.told.Numbered.{Numbered}

-- ---- lists

abbrev pub further : {A : Type 0} → (A → List ℕ) → A → List ℕ
further text x = codes ", " ++ text x

-- the words of each, with a comma before each further one
abbrev pub listed : {A : Type 0} → (A → List ℕ) → List A → List ℕ
listed text [] = []
listed text (x ∷ others) = text x ++ flat_map (further text) others

abbrev pub is_nil : {A : Type 0} → List A → Bool
is_nil [] = true
is_nil (x ∷ more) = false

-- ---- of the pairs with one request

-- the numbers of a pair's transfers in recordings
abbrev pub pair_text : Numbered → Tried → List ℕ
pair_text n t = by n.client n.server where
  by : Bool → Bool → List ℕ
  by true true = decimal t.client ++ codes " and " ++ decimal t.server
  by true false = decimal t.client
  by false true = decimal t.server
  by false false = []

abbrev pub many_words : ℕ → List ℕ
many_words count = decimal count ++ codes " pairs have one request, and " ++ decimal most_pairs ++ codes " at most are tried"

abbrev pub together_words : Numbered → List ℕ → List Tried → List ℕ
together_words n how pairs = how ++ codes " of the pairs with one request goes together: " ++ listed (pair_text n) pairs

-- where none goes together all are named, and else those that do
abbrev pub tried_words : Numbered → List Tried → List ℕ
tried_words n tried = if is_nil (matched_in tried) then together_words n (codes "none") tried else together_words n (codes "more than one") (matched_in tried)

-- nothing where there was no pair to try
abbrev pub count_line : Numbered → List Tried → Option (List ℕ)
count_line n [] = None
count_line n (t ∷ more) = Some (tried_words n (t ∷ more))

abbrev pub pairs_line : Numbered → Untaken → Option (List ℕ)
pairs_line n (TooMany count) = Some (many_words count)
pairs_line n (NotAlone tried) = count_line n tried.items

-- ---- of one of two captures

-- the file's name, the option that names a transfer, if it is a recording, and what its transfers were asked for
pub record Shown : Type 0 where
  pub file : List ℕ
  pub option : Option (List ℕ)
  pub asked : List Asked

abbrev pub shown : {T : Type 0} → Side T → Shown
shown s = record { file = s.file.now; option = option_map (λ o. o.now) s.option; asked = s.asked.now }

abbrev pub apart_line : Bool → List ℕ → Option (List ℕ)
apart_line has_none other = if has_none then None else Some (codes "no transfer has the request of " ++ other)

abbrev pub several_words : List ℕ → List ℕ → List ℕ → List ℕ
several_words option other numbers = codes "transfers " ++ listed decimal numbers ++ codes " have the request of " ++ other ++ codes ": name one by " ++ option

-- Of a recording whose transfers were asked for this, of which these have the request of the other capture. Nothing is told of a
-- capture text, nor where there is no transfer at all, or one alone has the request.
abbrev pub side_line : Option (List ℕ) → List Asked → List ℕ → List ℕ → Option (List ℕ)
side_line None asked other meant = None
side_line (Some option) asked other [] = apart_line (is_nil asked) other
side_line (Some option) asked other (n ∷ []) = None
side_line (Some option) asked other (n ∷ m ∷ more) = Some (several_words option other (n ∷ m ∷ more))

-- ---- all that is told

abbrev pub line_text : List ℕ → List ℕ → Option (List ℕ) → List ℕ
line_text program file None = []
line_text program file (Some words) = remark_text program file words

-- it is told of the server's too, unless none of the transfers in the client's recording has its request
abbrev pub goes_on : Option (List ℕ) → List ℕ → Bool
goes_on None meant = true
goes_on (Some option) meant = not (is_nil meant)

abbrev pub numbered_of : Shown → Shown → Numbered
numbered_of client server = record { client = is_some client.option; server = is_some server.option }

-- of the pairs, in a line behind both files
abbrev pub pairs_text : List ℕ → Shown → Shown → Untaken → List ℕ
pairs_text program client server why = line_text program (client.file ++ codes ", " ++ server.file) (pairs_line (numbered_of client server) why)

-- of one of two captures, of whose transfers these have the request of the other, which has this name
abbrev pub side_text : List ℕ → Shown → List ℕ → List ℕ → List ℕ
side_text program side other meant = line_text program side.file (side_line side.option side.asked other meant)

-- Of the pairs; of the client's capture; and of the server's.
abbrev pub untaken_text : List ℕ → Shown → Shown → List ℕ → List ℕ → Untaken → List ℕ
untaken_text program client server own others why =
    pairs_text program client server why ++ side_text program client server.file own
    ++ (if goes_on client.option own then side_text program server client.file others else [])
