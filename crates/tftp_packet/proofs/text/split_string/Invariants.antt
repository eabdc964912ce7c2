use Rattle.std.proofs.Common.{take}
use Rattle.tftp_packet.specs.{IsString}
use Rattle.tftp_packet.proofs.text.split_string.Given as goal

-- no byte so far is zero
abbrev pub invariant-loop-end : goal.invariant-loop-end
invariant-loop-end l = IsString (take l.end l.bytes)
