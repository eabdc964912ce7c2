-- What is printed of two captures as JSON (docs/schemas), member by member.
use Rattle.std.specs.Prelude.{ℕ, ◌-◌, ◌++◌, List, [], ◌∷◌, codes, length, map, Option, Some, None, option_map, Result, Ok, Err, take}
use Rattle.json.specs.Json.{Json, boolean, null, string}
use Rattle.tftp_packet.specs.{Client, Server}
use Rattle.tftp_commands.specs.{checked}
use Rattle.judge_pair.specs.{Apart, SentLater, Stopped, Unsent, Wait, WrongEnd}
use Rattle.judge_pair.specs.declared.judge.matched.Matched.{Matched}
use Rattle.judge_pair.specs.declared.match_texts.said.PairSaid.{PairSaid}
use Rattle.tftp_match.specs.Copies.{block_of, kind_word, sender_word}
use Rattle.tftp_match.specs.Firsts.{carried, client_first, is_matched, server_first}
use Rattle.tftp_rows.specs.Members.{array_of, count_json, count_or_null, json_text, object_of, text_or_null}
use Rattle.tftp_match.specs.declared.copies.Copies.{Copies}
use Rattle.tftp_match.specs.declared.facts.First.{First}
use Rattle.tftp_match.specs.declared.objects.Captured.{Captured}

-- ---- a capture

-- a line without its end
abbrev pub words_of : List ℕ → List ℕ
words_of line = take (length line - 1) line

-- a capture, of whose verdict this is the line
abbrev pub side_json : Captured → List ℕ → Json
side_json c line = object_of (
    (codes "file", string c.file.now)
    ∷ (codes "number", count_or_null c.number)
    ∷ (codes "verdict", string (words_of line))
    ∷ [])

-- ---- both

-- the capture that names the other end
abbrev pub fault_word : PairSaid → Option (List ℕ)
fault_word s = by s.together where
  by : Result Matched Apart → Option (List ℕ)
  by (Ok m) = None
  by (Err (WrongEnd Client)) = Some (codes "client WrongEnd")
  by (Err (WrongEnd Server)) = Some (codes "server WrongEnd")
  by (Err Stopped) = None

abbrev pub why_word : Wait → List ℕ
why_word Unsent = codes "unsent"
why_word SentLater = codes "waits"

-- the word that tells why a datagram waits
abbrev pub first_word : First → Option (List ℕ)
first_word first = option_map why_word first.why

abbrev pub word_in : Option First → Option (List ℕ)
word_in None = None
word_in (Some first) = first_word first

abbrev pub number_in : Option First → Option ℕ
number_in first = option_map (λ f. f.number) first

-- how far they go together
abbrev pub numbers_json : PairSaid → Json
numbers_json s = object_of (
    (codes "matched", boolean (is_matched s))
    ∷ (codes "lost", count_or_null (option_map (λ c. c.lost) (carried s)))
    ∷ (codes "repeated", count_or_null (option_map (λ c. c.repeated) (carried s)))
    ∷ (codes "client_datagram", count_or_null (number_in (client_first s)))
    ∷ (codes "server_datagram", count_or_null (number_in (server_first s)))
    ∷ (codes "client_why", text_or_null (word_in (client_first s)))
    ∷ (codes "server_why", text_or_null (word_in (server_first s)))
    ∷ [])

-- null where that is not told
abbrev pub if_told : Result Matched Apart → Json → Json
if_told (Ok m) j = j
if_told (Err why) j = null

abbrev pub together_json : PairSaid → Json
together_json s = if_told s.together (numbers_json s)

-- ---- how often each packet was sent and taken

abbrev pub copies_json : Copies → Json
copies_json c = object_of (
    (codes "from", string (sender_word c.from))
    ∷ (codes "packet", string (kind_word c.from c.packet))
    ∷ (codes "block", count_or_null (block_of c.packet))
    ∷ (codes "sent", count_json c.sent)
    ∷ (codes "taken", count_json c.taken)
    ∷ [])

abbrev pub counts_json : Option (List Copies) → Json
counts_json None = null
counts_json (Some copies) = array_of (map copies_json copies)

-- ---- all of it

abbrev pub pair_json : Captured → Captured → PairSaid → Option (List Copies) → Json
pair_json client server s copies = object_of (
    (codes "client", side_json client (checked s.client).bytes)
    ∷ (codes "server", side_json server (checked s.server).bytes)
    ∷ (codes "fault", text_or_null (fault_word s))
    ∷ (codes "together", together_json s)
    ∷ (codes "counts", counts_json copies)
    ∷ [])

-- the line that is printed
abbrev pub json_line : Captured → Captured → PairSaid → Option (List Copies) → List ℕ
json_line client server s copies = json_text (pair_json client server s copies) ++ codes "\n"
