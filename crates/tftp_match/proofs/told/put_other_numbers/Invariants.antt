use Rattle.std.proofs.Common.{◌≡◌, ◌++◌, decimal, flat_map, string_bytes, take}
use Rattle.tftp_match.specs.Untaken.{further}
use Rattle.tftp_match.proofs.told.put_other_numbers.Given as goal

-- what stands there is what stood there and the numbers so far
abbrev pub invariant-loop-number : goal.invariant-loop-number
invariant-loop-number l = string_bytes l.line ≡ string_bytes l.initial.line ++ flat_map (further decimal) (take l.number-index l.numbers)
