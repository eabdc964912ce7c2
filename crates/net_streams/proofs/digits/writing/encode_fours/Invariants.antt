use Rattle.std.proofs.Common.{◌≡◌, ◌*◌, ◌-◌, ◌≤◌, length, take}
use Rattle.hex.specs.Hex.{encode_lower}
use Rattle.net_streams.proofs.digits.writing.encode_fours.Given as goal

abbrev pub invariant-loop-done : goal.invariant-loop-done
invariant-loop-done l = record {
  within : l.done ≤ length l.bytes;
  len : length l.digits ≡ 2 * length l.bytes;
  written : take (2 * l.done) l.digits ≡ encode_lower (take l.done l.bytes);
}

abbrev pub decreases-loop-done : goal.decreases-loop-done
decreases-loop-done l = length l.bytes - l.done
