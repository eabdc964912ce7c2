use Rattle.tftp_packet.specs.{Client}
use Rattle.audit_views.proofs.ViewsLemmas.Judging.{begins_by}
use Rattle.audit_views.proofs.views.client.ClientJudge.by.Goals as goal

pub returns-clause-after : goal.returns-clause-after
returns-clause-after g c name = begins_by c.args.rollover c.new.result.judge Client c.args.transfer.asked.port c.new.ensures.judged
