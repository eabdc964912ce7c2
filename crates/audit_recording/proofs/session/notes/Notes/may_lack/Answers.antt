use Rattle.std.proofs.Common.{◌+◌, ◌||◌, ap, inr, nat_le, rules}
use Rattle.audit_flows.specs.Lines.{silence}
use Rattle.audit_recording.specs.Losses.Noted.{IsMissingOf}
use Rattle.audit_recording.proofs.SessionLemmas.Lacking.{none_up_to, some_up_to}
use Rattle.audit_recording.proofs.session.notes.Notes.may_lack.Goals as goal

pub returns-then-is_up_to-clause-some : goal.returns-then-is_up_to-clause-some
returns-then-is_up_to-clause-some c s are asked is =
    let t = c.args.trail.now in
    let told = some_up_to (IsMissingOf t.transfer.client.address s.events) t.last c.is_up_to.result c.missing_of-missing.result.first (c.missing_of-missing.ensures.first s are) c.is_up_to.ensures is in
    inr (told.0, told.1, told.2, ap (λ b. b || nat_le told.1 (t.last_time + silence)) told.3)

pub returns-else-is_up_to-clause-none : goal.returns-else-is_up_to-clause-none
returns-else-is_up_to-clause-none c s are is = (
  search rules,
  none_up_to (IsMissingOf c.args.trail.now.transfer.client.address s.events) c.args.trail.now.last c.is_up_to.result c.missing_of-missing.result.first (c.missing_of-missing.ensures.first s are) c.is_up_to.ensures c.if-is_up_to.false,
)
