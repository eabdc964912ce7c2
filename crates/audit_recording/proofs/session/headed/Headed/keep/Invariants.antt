use Rattle.std.proofs.Common.{◌≡◌}
use Rattle.audit_recording.proofs.session.headed.Headed.keep.Given as goal

-- the reader stays
abbrev pub invariant-loop-byte : goal.invariant-loop-byte
invariant-loop-byte g l = record {
  inner : l.self.inner ≡ l.initial.self.inner;
}
