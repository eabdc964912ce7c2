use Rattle.tftp_capture.specs.{header_of}
use Rattle.audit_views.proofs.ViewsLemmas.Judging.{stands_new}
use Rattle.audit_views.proofs.views.end_judge.EndJudge.new.Goals as goal

pub invariant_of-result : goal.invariant_of-result
invariant_of-result g c = stands_new (header_of c.args.header.now) c.new.result c.new.ensures
