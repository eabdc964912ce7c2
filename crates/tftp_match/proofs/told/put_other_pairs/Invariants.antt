use Rattle.std.proofs.Common.{◌≡◌, ◌++◌, flat_map, string_bytes, take}
use Rattle.tftp_match.specs.Untaken.{further, pair_text}
use Rattle.tftp_match.proofs.told.put_other_pairs.Given as goal

-- what stands there is what stood there and the pairs so far
abbrev pub invariant-loop-pair : goal.invariant-loop-pair
invariant-loop-pair l = string_bytes l.line ≡ string_bytes l.initial.line ++ flat_map (further (pair_text l.numbered)) (take l.pair-index l.pairs)
