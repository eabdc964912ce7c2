-- A row of a list: what it says of a transfer, and its text.
use Rattle.std.specs.Prelude.{◌++◌, ◌∷◌, ℕ, Bool, false, List, [], codes, decimal, string_bytes}
use Rattle.json.specs.Json.{Json, string}
use Rattle.tftp_rows.specs.Cells.{cell}
use Rattle.tftp_rows.specs.Endings.{fault_text}
use Rattle.tftp_rows.specs.Members.{count_json, json_text, object_of}
use Rattle.tftp_rows.specs.Objects.{ended_json, times_json}
use Rattle.tftp_rows.specs.Plain.{endpoint_text}
use Rattle.tftp_rows.specs.Times.{slow_text}
use Rattle.tftp_rows.specs.declared.asked.AskedWords.{AskedWords}
use Rattle.tftp_rows.specs.declared.listing.ListRow.{ListRow}
use Rattle.tftp_rows.specs.declared.printing.Form.{Form}
use Rattle.tftp_rows.specs.declared.printing.Form.TheVariants.{Words, Json as InJson}

-- the line of the columns' heads
unfoldable pub list_head : List ℕ
list_head = codes "number  client                 server                 kind  mode      file              options           datagrams  frames\n"

-- from the first to the last
abbrev pub frames_text : ℕ → ℕ → List ℕ
frames_text first last = decimal first ++ codes "-" ++ decimal last

abbrev pub asked_cells : AskedWords → List ℕ
asked_cells w = cell 4 w.kind.now ++ cell 8 w.mode.now ++ cell 16 (string_bytes w.file) ++ cell 16 (string_bytes w.options)

-- a row of the list, without its line's end
abbrev pub list_text : ListRow → List ℕ
list_text r =
    cell 6 (decimal r.number) ++ cell 21 (endpoint_text r.client) ++ cell 21 (endpoint_text r.server) ++ asked_cells r.asked ++ cell 9 (decimal r.datagrams)
    ++ frames_text r.first_frame r.last_frame ++ fault_text r.ended ++ slow_text r.times

-- the same as JSON (docs/schemas), member by member
abbrev pub list_json : ListRow → Json
list_json r = object_of (
    (codes "number", count_json r.number)
    ∷ (codes "client", string (endpoint_text r.client))
    ∷ (codes "server", string (endpoint_text r.server))
    ∷ (codes "kind", string r.asked.kind.now)
    ∷ (codes "mode", string r.asked.mode.now)
    ∷ (codes "file", string (string_bytes r.asked.file))
    ∷ (codes "options", string (string_bytes r.asked.options))
    ∷ (codes "datagrams", count_json r.datagrams)
    ∷ (codes "first_frame", count_json r.first_frame)
    ∷ (codes "last_frame", count_json r.last_frame)
    ∷ (codes "ended", ended_json r.ended)
    ∷ (codes "times", times_json r.times)
    ∷ [])

-- the line of a row, without its end
abbrev pub list_line : Form → ListRow → List ℕ
list_line (Words width) row = list_text row
list_line InJson row = json_text (list_json row)

-- the heads, where words are printed and no heads stand before
abbrev pub list_heads : Form → Bool → List ℕ
list_heads (Words width) false = list_head
list_heads _ _ = []

-- the line of a row with its end, behind the heads where none stand before
abbrev pub list_lines : Form → Bool → ListRow → List ℕ
list_lines form headed row = list_heads form headed ++ (list_line form row ++ codes "\n")
