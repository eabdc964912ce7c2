use Rattle.audit_flows.proofs.TransfersLemmas.Forgetting.{forgets_both}
use Rattle.audit_flows.proofs.transfers.letting_go.let_some_go.Goals as goal

pub returns-then-len-before : goal.returns-then-len-before
returns-then-len-before g c =
    forgets_both g.V.Dated.moment c.args.now c.args.kept.now c.let_one_go.new.kept c.let_one_go-then-len-before.new.kept c.let_one_go.ensures c.let_one_go-then-len-before.ensures
