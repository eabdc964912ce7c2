use Rattle.std.proofs.Common.{◌≡◌, Some, map, take}
use Rattle.net_udp.proofs.fragments.parts.Parts.content.Given as goal

abbrev pub invariant-loop-cell : goal.invariant-loop-cell
invariant-loop-cell l = map (λ b. Some b) l.bytes.items ≡ take l.cell-index l.self.cells
