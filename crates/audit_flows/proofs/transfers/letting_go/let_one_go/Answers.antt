use Rattle.audit_flows.proofs.TransfersLemmas.Forgetting.{forgets_one}
use Rattle.audit_flows.proofs.transfers.letting_go.let_one_go.Goals as goal

pub returns-then-is_old : goal.returns-then-is_old
returns-then-is_old g c =
    forgets_one g.V.Dated.moment c.args.now c.args.kept.now c.remove.new.self c.in-Some.next (c.is_old.ensures c.if-is_old.true) c.remove.ensures.updates.0
