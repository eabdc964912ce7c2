use Rattle.std.proofs.Common.{◌≤◌, take, drop}
use Rattle.tftp_netascii.specs.{file_at}
use Rattle.tftp_netascii.proofs.OneByOne.{Written}
use Rattle.tftp_netascii.proofs.in_place.read_bytes.Given as goal

-- what is written, a CR that is held back among it, and what is left make the same file
abbrev pub invariant-loop-index : goal.invariant-loop-index
invariant-loop-index l = record {
  behind : l.written ≤ l.index;
  written : Written l.before (take l.written l.bytes) (drop l.index l.bytes) (file_at l.fn.bytes l.fn.read l.fn.written);
}
