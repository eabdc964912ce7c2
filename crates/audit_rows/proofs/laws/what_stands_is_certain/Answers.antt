use Rattle.audit_flows.specs.Lines.{follows_request}
use Rattle.audit_flows.specs.Transfers.{some_of}
use Rattle.audit_recording.specs.Blame.Frames.{whole_of}
use Rattle.audit_rows.proofs.Stood.{certain_by, open_by}
use Rattle.audit_rows.proofs.laws.what_stands_is_certain.Goals as goal

pub returns-clause-yes : goal.returns-clause-yes
returns-clause-yes c = λ x named carried v view options stands.
    certain_by x (whole_of named carried) v.rollover (some_of x.number follows_request (whole_of named carried)) options v.blamed v.found view.found stands

pub returns-clause-no : goal.returns-clause-no
returns-clause-no c = λ x named carried v view options stands.
    open_by x (whole_of named carried) v.rollover (some_of x.number follows_request (whole_of named carried)) options v.blamed v.found view.found stands
