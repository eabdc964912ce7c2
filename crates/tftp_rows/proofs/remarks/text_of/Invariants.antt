use Rattle.std.proofs.Common.{◌≡◌, map, string_bytes, take}
use Rattle.tftp_rows.specs.Remarks.{remarks_text}
use Rattle.tftp_rows.proofs.remarks.text_of.Given as goal

-- the lines so far stand there
abbrev pub invariant-loop-line : goal.invariant-loop-line
invariant-loop-line l = string_bytes l.text ≡ remarks_text l.program l.file (map string_bytes (take l.line-index l.lines))
