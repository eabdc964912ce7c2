use Rattle.std.proofs.Common.{◌≡◌, ◌++◌, replicate, string_bytes}
use Rattle.tftp_rows.proofs.cells.pad.Given as goal

-- a space was put for each place so far
abbrev pub invariant-loop-place : goal.invariant-loop-place
invariant-loop-place l = string_bytes l.line ≡ string_bytes l.initial.line ++ replicate l._place 32
