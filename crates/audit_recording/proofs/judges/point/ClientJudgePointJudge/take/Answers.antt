use Rattle.audit_flows.proofs.TransfersLemmas.OwnDatagrams.{about_none}
use Rattle.audit_recording.proofs.judges.point.ClientJudgePointJudge.take.Goals as goal

pub returns-clause-others : goal.returns-clause-others
returns-clause-others g c p there off = c.feed.ensures.others p there (about_none c.args.self.now.transfer.number p off)
