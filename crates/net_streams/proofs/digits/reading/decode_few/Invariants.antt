use Rattle.std.proofs.Common.{◌≡◌, ◌*◌, ◌-◌, ◌≤◌, length, take, Ok}
use Rattle.hex.specs.Hex.{decode_of}
use Rattle.net_streams.proofs.digits.reading.decode_few.Given as goal

abbrev pub invariant-loop-bytes : goal.invariant-loop-bytes
invariant-loop-bytes l = record {
  within : l.done ≤ length l.bytes;
  len : length l.digits ≡ 2 * length l.bytes;
  decoded : decode_of (take (2 * l.done) l.digits) ≡ Ok (take l.done l.bytes);
}

abbrev pub decreases-loop-bytes : goal.decreases-loop-bytes
decreases-loop-bytes l = length l.bytes - l.done
