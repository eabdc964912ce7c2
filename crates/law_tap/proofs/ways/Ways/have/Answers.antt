use Rattle.std.proofs.Common.{◌∙◌, ap}
use Rattle.law_tap.specs.{is_noted}
use Rattle.law_tap.proofs.NotedWays.{noted_by_order}
use Rattle.law_tap.proofs.ways.Ways.have.Goals as goal

pub returns : goal.returns
returns c = c.contains.ensures ∙ noted_by_order c.args.way c.self.inside.ways.keys ∙ ap (is_noted c.args.way) c.self.view_is
