use Rattle.std.proofs.Common.{◌≡◌, [], Some, None, ap, refl, sym, ◌∙◌}
use Rattle.audit_recording.specs.Blame.Frames.{whole_of}
use Rattle.audit_rows.specs.Accusing.{accused_of_row}
use Rattle.audit_rows.specs.Doubting.{row_reasons}
use Rattle.audit_cleared.proofs.worked.worked_rows.Goals as goal

pub returns-clause-accuses : goal.returns-clause-accuses
returns-clause-accuses c none = absurd (cc)

pub returns-clause-late : goal.returns-clause-late
returns-clause-late c = refl

pub returns-clause-blames : goal.returns-clause-blames
returns-clause-blames c x carried d t v none = ap (λ o. accused_of_row x (whole_of [] carried) t o (row_reasons x (whole_of [] carried) d t v)) none

pub returns-clause-known : goal.returns-clause-known
returns-clause-known c x carried v none number f found at = let both : None ≡ Some number = sym none ∙ found in absurd (cc)
