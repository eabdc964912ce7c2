use Rattle.std.proofs.Common.{◌≡◌, ◌++◌, flat_map, string_bytes, take}
use Rattle.tftp_commands.specs.Losses.{further_text}
use Rattle.tftp_commands.proofs.losses.line.put_further.Given as goal

-- what stands there is what stood there and the places so far
abbrev pub invariant-loop-place : goal.invariant-loop-place
invariant-loop-place l = string_bytes l.line ≡ string_bytes l.initial.line ++ flat_map further_text (take l.place-index l.places)
