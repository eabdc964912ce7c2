use Rattle.std.proofs.Common.{◌≡◌, ◌++◌, flat_map, string_bytes, take}
use Rattle.audit_recording.specs.Session.Lines.{further_number}
use Rattle.audit_recording.proofs.session.frames.put_further.Given as goal

-- what stands there is what stood there and the numbers so far
abbrev pub invariant-loop-number : goal.invariant-loop-number
invariant-loop-number l = string_bytes l.line ≡ string_bytes l.initial.line ++ flat_map further_number (take l.number-index l.numbers)
