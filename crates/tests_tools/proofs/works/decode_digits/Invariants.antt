use Rattle.std.proofs.Common.{◌-◌, ◌≤◌, vec_len}
use Rattle.tests_tools.proofs.works.decode_digits.Given as goal

abbrev pub invariant-loop : goal.invariant-loop
invariant-loop g l = l.len ≤ vec_len l.held

abbrev pub invariant-loop-size : goal.invariant-loop-size
invariant-loop-size g l = (l.start ≤ l.len) × (l.len ≤ vec_len l.held)

abbrev pub decreases-loop-size : goal.decreases-loop-size
decreases-loop-size g l = l.len - l.start
