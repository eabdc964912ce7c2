use Rattle.std.proofs.Common.{◌≡◌, Some, sym, subst}
use Rattle.std.specs.BTreeMap.{get}
use Rattle.std.specs.Ordering.{nat_cmp}
use Rattle.audit_recording.specs.Losses.Noted.{IsTold, Since}
use Rattle.audit_recording.specs.Losses.Kept.{IsKept}
use Rattle.audit_recording.proofs.LossesLemmas.Answering.{told_of_both}
use Rattle.audit_recording.proofs.session.host_losses.HostLosses.first_since.Goals as goal

pub returns : goal.returns
returns c = subst (IsTold (Since (IsKept c.args.self.now) c.args.stretch.now) c.args.stretch.now) (sym c.least.ensures)
    (told_of_both (λ n time. get nat_cmp c.args.self.now.lost n ≡ Some time) (λ n time. get nat_cmp c.args.self.now.waiting n ≡ Some time) c.args.stretch.now
    c.first_within.result c.first_within-2.result c.first_within.ensures c.first_within-2.ensures)
