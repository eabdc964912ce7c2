use Rattle.std.proofs.Common.{◌≡◌, ◌++◌, flat_map, map, string_bytes, take}
use Rattle.audit_recording.specs.Session.Lines.{pair_lines}
use Rattle.audit_recording.proofs.session.begun.Begun.put.Given as goal

-- the lines are those that stood there and those of the pairs so far
abbrev pub invariant-loop-pair : goal.invariant-loop-pair
invariant-loop-pair l = map string_bytes l.lines.items ≡ map string_bytes l.initial.lines.items ++ flat_map pair_lines (take l.pair-index l.self.pairs.items)
