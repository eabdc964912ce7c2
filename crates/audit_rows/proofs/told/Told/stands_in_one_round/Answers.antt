use Rattle.audit_rows.proofs.told.Told.stands_in_one_round.Goals as goal

pub returns : goal.returns
returns c = (c.stands_alone.result, c.stands_alone.ensures, c.where_asked_once.ensures)
