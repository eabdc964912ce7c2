use Rattle.std.proofs.Common.{◌≢◌, All, take}
use Rattle.tftp_capture.proofs.fields.cut.Given as goal

-- no space has come so far
abbrev pub invariant-loop-at : goal.invariant-loop-at
invariant-loop-at l = All (λ b. b ≢ 32) (take l.at l.text)
