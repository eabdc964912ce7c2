-- The text of a row.
use Rattle.std.specs.Prelude.{ℕ, ◌++◌, ◌∷◌, List, [], Option, Some, None, codes, decimal, flat_map, string_bytes}
use Rattle.audit_recording.specs.{Accused}
use Rattle.audit_recording.specs.declared.blame.reason.Reason.{Reason}
use Rattle.tftp_rows.specs.Reasons.{reason_text}
use Rattle.tftp_rows.specs.Plain.{endpoint_text, plain}
use Rattle.audit_recording.specs.declared.rows.row.Place.{Place}
use Rattle.audit_recording.specs.declared.rows.row.Place.TheVariants.{Client, Server, Both, Between}
use Rattle.tftp_rows.specs.Cells.{cell}
use Rattle.tftp_rows.specs.Endings.{before_text, ended_text, role_name}
use Rattle.tftp_rows.specs.Premises.{beyond_text, premise_text}
use Rattle.tftp_rows.specs.Times.{slow_text}
use Rattle.tftp_rows.specs.declared.row.VerdictRow.{VerdictRow}

-- the heads of the columns behind that of files
unfoldable pub column_heads : List ℕ
column_heads = codes "number  place    frame     accused                 verdict\n"

-- the line of the columns' heads
abbrev pub head_text : ℕ → List ℕ
head_text width = cell width (codes "file") ++ column_heads

-- ---- the columns

abbrev pub place_name : Place → List ℕ
place_name Client = codes "client"
place_name Server = codes "server"
place_name Both = codes "both"
place_name Between = codes "between"

abbrev pub frame_text : Option ℕ → List ℕ
frame_text None = codes "-"
frame_text (Some frame) = decimal frame

-- the role and the endpoint
abbrev pub accused_text : Option Accused → List ℕ
accused_text None = codes "-"
accused_text (Some a) = role_name a.role ++ codes " " ++ endpoint_text a.end

-- ---- the doubts

abbrev pub doubtful_text : List Reason → List ℕ
doubtful_text [] = []
doubtful_text (reason ∷ more) = codes "doubtful "

abbrev pub further_reason : Reason → List ℕ
further_reason reason = codes "; " ++ reason_text reason

abbrev pub reasons_text : List Reason → List ℕ
reasons_text [] = []
reasons_text (reason ∷ more) = codes ": " ++ reason_text reason ++ flat_map further_reason more

-- ---- the row

-- the verdict; whether and why it is doubtful, or else what it rests on; that an ERROR came before; that block numbers may begin again; how
-- the transfer ended, and how slow it was
abbrev pub verdict_text : VerdictRow → List ℕ
verdict_text r =
    doubtful_text r.charge.reasons.items ++ before_text r.ended ++ string_bytes r.verdict ++ premise_text r.charge r.stands ++ reasons_text r.charge.reasons.items
    ++ beyond_text r.goes_beyond ++ ended_text r.ended ++ slow_text r.times

-- a row under a column of files of this width, without its line's end
abbrev pub row_text : ℕ → VerdictRow → List ℕ
row_text width r =
    cell width (plain r.file.now) ++ cell 6 (decimal r.number) ++ cell 7 (place_name r.place) ++ cell 8 (frame_text r.frame) ++ cell 22 (accused_text r.charge.accused)
    ++ verdict_text r
