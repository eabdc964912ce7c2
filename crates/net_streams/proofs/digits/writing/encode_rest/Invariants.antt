use Rattle.std.proofs.Common.{◌≡◌, ◌*◌, ◌++◌, take, drop}
use Rattle.hex.specs.Hex.{encode_lower}
use Rattle.net_streams.proofs.digits.writing.encode_rest.Given as goal

-- what is written, and the digits of what is left
abbrev pub invariant-loop-i : goal.invariant-loop-i
invariant-loop-i l = take (2 * l.i) l.digits ++ encode_lower (drop l.i l.bytes) ≡ encode_lower l.bytes
