-- What a request asks for, in words.
use Rattle.std.specs.Prelude.{◌≡◌, ◌⊎◌, ◌++◌, ◌∷◌, ℕ, List, [], Option, Some, None, codes, flat_map, string_bytes}
use Rattle.tftp_packet.specs.{Side, Get, Put, Request, mode_name}
use Rattle.tftp_packet.specs.AsWritten.{IsWrittenRequest}
use Rattle.tftp_packet.specs.Messages.{RequestParts}
use Rattle.tftp_packet.specs.Spelling.{Spells}
use Rattle.tftp_packet.specs.Written.{Pair, WrittenRequest}
use Rattle.tftp_packet.specs.declared.packet.Packet.{Packet}
use Rattle.tftp_packet.specs.declared.packet.Packet.TheVariants as packet
use Rattle.tftp_rows.specs.Plain.{plain}
use Rattle.tftp_rows.specs.declared.asked.AskedWords.{AskedWords}

abbrev pub kind_name : Side → List ℕ
kind_name Get = codes "get"
kind_name Put = codes "put"

-- the file's name in quotes
abbrev pub quoted_name : List ℕ → List ℕ
quoted_name name = codes "\"" ++ plain name ++ codes "\""

abbrev pub option_text : Pair → List ℕ
option_text pair = plain pair.0 ++ codes "=" ++ plain pair.1

abbrev pub further_option : Pair → List ℕ
further_option pair = codes "," ++ option_text pair

-- the options as they are written, in their order
abbrev pub options_text : List Pair → List ℕ
options_text [] = codes "-"
options_text (pair ∷ more) = option_text pair ++ flat_map further_option more

-- They are the words of this request.
pub record AreWordsOf (w : AskedWords) (q : WrittenRequest) : Type 0 where
  pub kind : w.kind.now ≡ kind_name q.side
  pub mode : w.mode.now ≡ mode_name q.mode
  pub file : string_bytes w.file ≡ quoted_name q.name
  pub options : string_bytes w.options ≡ options_text q.pairs

-- They are those of no request.
pub record AreUnread (w : AskedWords) : Type 0 where
  pub kind : w.kind.now ≡ codes "?"
  pub mode : w.mode.now ≡ codes "?"
  pub file : string_bytes w.file ≡ codes "?"
  pub options : string_bytes w.options ≡ codes "?"

-- the request that a packet is
abbrev pub request_of : Packet → Option WrittenRequest
request_of (packet.Request q) = Some q
request_of _ = None

-- the payload spells no request
abbrev pub SpellsNone : List ℕ → Type 0
SpellsNone payload = (q : RequestParts) → Spells payload (Request q) → ⊥

-- They are the words of the request that the payload is, if it is one.
abbrev pub AreAskedBy : AskedWords → List ℕ → Type 0
AreAskedBy w payload = ((q : WrittenRequest) × IsWrittenRequest payload q × AreWordsOf w q) ⊎ (SpellsNone payload × AreUnread w)
