use Rattle.std.proofs.Common.{◌≡◌, ◌++◌, flat_map, map, string_bytes, take}
use Rattle.audit_recording.specs.Session.Lines.{kind_lines}
use Rattle.audit_recording.proofs.session.behind.Behind.put.Given as goal

-- the lines are those that stood there and those of the headers so far
abbrev pub invariant-loop-kind : goal.invariant-loop-kind
invariant-loop-kind l = map string_bytes l.lines.items ≡ map string_bytes l.initial.lines.items ++ flat_map kind_lines (take l.kind-index l.self.kinds.items)
