use Rattle.std.proofs.Common.{◌≡◌, ◌++◌, flat_map, string_bytes, take}
use Rattle.tftp_rows.specs.Rows.{further_reason}
use Rattle.tftp_rows.proofs.row.put_further.Given as goal

-- what stands there is what stood there and the reasons so far
abbrev pub invariant-loop-reason : goal.invariant-loop-reason
invariant-loop-reason l = string_bytes l.line ≡ string_bytes l.initial.line ++ flat_map further_reason (take l.reason-index l.reasons)
