use Rattle.std.proofs.Common.{◌∙◌, sym, ap, ◌||◌}
use Rattle.law_model.proofs.Results.{where_err}
use Rattle.law_tap.specs.{same_way, is_noted}
use Rattle.law_tap.proofs.NotedWays.{noted_by_order, noted_more}
use Rattle.law_tap.proofs.ways.Ways.note.Goals as goal

pub returns-in_err-insert-clause-absent : goal.returns-in_err-insert-clause-absent
returns-in_err-insert-clause-absent c = where_err c.from_residual.result
    (ap (is_noted c.args.way) (sym c.self.view_is) ∙ sym (noted_by_order c.args.way c.self.inside.ways.keys) ∙ c.in_err-insert.ensures.absent)

pub returns-clause-ok : goal.returns-clause-ok
returns-clause-ok c other = noted_more c.args.way other c.self.inside.ways.keys c.insert.new.self.keys (c.in_ok-insert.ensures.updates.0 other)
    ∙ ap (λ s. same_way c.args.way other || is_noted other s) c.self.view_is
