use Rattle.std.proofs.Common.{◌≡◌, ◌++◌, string_bytes, take}
use Rattle.audit_recording.specs.Session.Plain.{plain}
use Rattle.audit_recording.proofs.session.plain.put_plain.Given as goal

-- what stands there is what stood there and the text of the bytes so far
abbrev pub invariant-loop-byte : goal.invariant-loop-byte
invariant-loop-byte l = string_bytes l.line ≡ string_bytes l.initial.line ++ plain (take l.byte-index l.bytes)
