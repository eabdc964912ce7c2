use Rattle.std.proofs.Common.{◌≡◌, ◌++◌, flat_map, string_bytes}
use Rattle.tftp_rows.specs.Asked.{further_option}
use Rattle.tftp_rows.proofs.asked.put_further.Given as goal

-- what stands there, and the options that come yet, are what stood there and all options
abbrev pub invariant-loop-name : goal.invariant-loop-name
invariant-loop-name l = string_bytes l.text ++ flat_map further_option l.name-iterator ≡ string_bytes l.initial.text ++ flat_map further_option l.fn.pairs
