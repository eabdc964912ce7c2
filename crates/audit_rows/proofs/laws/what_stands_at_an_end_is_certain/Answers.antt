use Rattle.audit_flows.specs.Lines.{follows_request}
use Rattle.audit_flows.specs.Transfers.{some_of}
use Rattle.audit_recording.specs.Blame.Frames.{whole_of}
use Rattle.audit_rows.specs.declared.found.Found.TheVariants.{AtEnd}
use Rattle.audit_rows.proofs.Stood.{alone_as}
use Rattle.audit_rows.proofs.StoodAtEnd.{client_certain, never_so, none_by_rollover, server_certain}
use Rattle.audit_rows.proofs.laws.what_stands_at_an_end_is_certain.Goals as goal

pub returns-clause-client : goal.returns-clause-client
returns-clause-client c = λ x named carried v view stands.
    client_certain x named carried (some_of x.number follows_request (whole_of named carried)) v view stands

pub returns-clause-server : goal.returns-clause-server
returns-clause-server c = λ x named carried v view stands.
    server_certain x named carried v.rollover (some_of x.number follows_request (whole_of named carried)) v.blamed v.found view.found stands

pub returns-clause-never : goal.returns-clause-never
returns-clause-never c = λ at x more options b said stands. never_so at x options b said (alone_as at x more options b (AtEnd said) _ stands)

pub returns-clause-by_rollover : goal.returns-clause-by_rollover
returns-clause-by_rollover c = none_by_rollover
