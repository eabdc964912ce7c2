use Rattle.std.proofs.Common.{◌≡◌, None, length, ap, arith}
use Rattle.audit_views.specs.Views.{View}
use Rattle.audit_views.proofs.ViewsLemmas.Holding.{held_own}
use Rattle.audit_views.proofs.views.server_view.ServerView.held.Goals as goal

pub returns-clause-own : goal.returns-clause-own
returns-clause-own g c name placed after =
    let own = held_own None c.args.self.now name placed after in
    let len = c.len.ensures in
    let all = c.self.inside.held.ok.0 in
    let same : length c.self.inside.held.items ≡ length c.args.self.now.held = ap (λ (v : View). length v.held) c.self.view_is in
    omega arith
