use Rattle.std.proofs.Common.{◌≡◌, ◌<◌, ℕ, get_or}
use Rattle.audit_recording.specs.declared.session.requests.Asked.{Asked}
use Rattle.tftp_match.specs.Candidates.{HaveOneRequest}
use Rattle.tftp_match.proofs.candidates.is_among.Given as goal

-- none of the others so far has the same request
abbrev pub invariant-loop-other : goal.invariant-loop-other
invariant-loop-other l = (k : ℕ) (x : Asked) → k < l.other-index → get_or l.others k x ≡ x → HaveOneRequest l.payload x.payload.now → ⊥
