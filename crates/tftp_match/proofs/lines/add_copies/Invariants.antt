use Rattle.std.proofs.Common.{◌≡◌, ◌++◌, flat_map, take}
use Rattle.tftp_match.specs.Copies.{copies_line}
use Rattle.tftp_match.proofs.lines.add_copies.Given as goal

-- what was added is the lines of the packets so far
abbrev pub invariant-loop-copies : goal.invariant-loop-copies
invariant-loop-copies l = l.text.items ≡ l.fn.text.items ++ flat_map copies_line (take l.copies-index l.all)
