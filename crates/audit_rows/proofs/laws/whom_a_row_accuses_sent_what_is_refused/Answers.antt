use Rattle.audit_rows.specs.Doubting.{row_reasons}
use Rattle.audit_rows.proofs.Sent.{end_of, sent}
use Rattle.audit_rows.proofs.laws.whom_a_row_accuses_sent_what_is_refused.Goals as goal

pub returns-clause-sent : goal.returns-clause-sent
returns-clause-sent c x whole d t v a is = let it = sent x whole t v.blamed (row_reasons x whole d t v) a is in (it.datagram, it.blamed, it.source)

pub returns-clause-end : goal.returns-clause-end
returns-clause-end c x whole d t v a is = end_of x whole t v.blamed (row_reasons x whole d t v) a is

pub returns-clause-refused : goal.returns-clause-refused
returns-clause-refused c x whole d t v a is = (sent x whole t v.blamed (row_reasons x whole d t v) a is).refused

pub returns-clause-sure : goal.returns-clause-sure
returns-clause-sure c x whole d t v a is = (sent x whole t v.blamed (row_reasons x whole d t v) a is).sure
