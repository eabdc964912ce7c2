-- Texts of version 2 with comments: lines that say nothing, among those of the datagrams.
use Rattle.std.specs.Prelude.{ℕ, ◌+◌, ◌≤◌, List, [], ◌∷◌, ◌++◌, length, map, codes}
use Rattle.tftp_capture.specs.declared.version.Version.TheVariants.{Two}
use Rattle.tftp_capture.specs.CaptureText.{Datagram, Header, IsLawful, Numbered, end_line, head_line, line_with_host, service_line, total_line, whole_lines}
use Rattle.tftp_capture.specs.Lines.{HasNoEnd}

-- what a line after the header is: a comment of these words, or a datagram with its host
pub data Entry : Type 0 where
  Comment : (words : List ℕ) → Entry
  Passed : (datagram : Datagram) → Entry

-- a line that says nothing: it begins with `#`
abbrev pub comment_line : List ℕ → List ℕ
comment_line words = codes "# " ++ words

abbrev pub entry_line : Entry → List ℕ
entry_line (Comment words) = comment_line words
entry_line (Passed d) = line_with_host d

-- the datagrams, without the comments
abbrev pub said_in : List Entry → List Datagram
said_in [] = []
said_in (Comment words ∷ entries) = said_in entries
said_in (Passed d ∷ entries) = d ∷ said_in entries

-- the datagrams with their lines, where the first entry stands on line n
abbrev pub numbered_in : ℕ → List Entry → List Numbered
numbered_in n [] = []
numbered_in n (Comment words ∷ entries) = numbered_in (n + 1) entries
numbered_in n (Passed d ∷ entries) = (n, d) ∷ numbered_in (n + 1) entries

-- the text of version 2 with these lines after its header
abbrev pub commented_text : Header → List Entry → List ℕ
commented_text header entries =
    whole_lines (head_line Two ∷ end_line header.named ∷ service_line header.service ∷ (map entry_line entries ++ total_line (length (said_in entries)) ∷ []))

-- what a text can hold: a comment in a line of at most 131,116 bytes, or a lawful datagram
abbrev pub IsEntry : Entry → Type 0
IsEntry (Comment words) = HasNoEnd words × (length words ≤ 131114)
IsEntry (Passed d) = IsLawful d
