use Rattle.std.proofs.Common.{◌≡◌, ◌++◌, replicate, string_bytes}
use Rattle.audit_recording.proofs.session.kept.put_fraction.Given as goal

-- a zero was put for each place so far
abbrev pub invariant-loop-place : goal.invariant-loop-place
invariant-loop-place l = string_bytes l.words ≡ string_bytes l.initial.words ++ replicate l._place 48
