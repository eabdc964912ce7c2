use Rattle.std.proofs.Common.{◌≡◌, ◌+◌, ◌≤◌, length, drop}
use Rattle.std.specs.Net.Text.{zero_run, longest_zero_run}
use Rattle.net_udp.proofs.frames.address.longest_zero_run.Given as goal

abbrev pub invariant-loop-i : goal.invariant-loop-i
invariant-loop-i l =
    (l.run ≡ zero_run (drop l.i l.segments)) × (l.len ≡ (longest_zero_run (drop l.i l.segments)).1)
    × (l.start ≡ l.i + (longest_zero_run (drop l.i l.segments)).0)
    × (l.i + l.run ≤ length l.segments) × (l.start + l.len ≤ length l.segments)
