use Rattle.std.proofs.Common.{false, ◌∷◌, filter, refl}
use Rattle.law_end.specs.{Rule}
use Rattle.audit_flows.specs.Transfers.{client, service}
use Rattle.audit_spared.specs.Spared.Seen.{is_with}
use Rattle.audit_spared.specs.Spared.{IsServedCapture, FollowOneAnother}
use Rattle.audit_spared.specs.Spared.Worked.{ack_again, asked_late, one_client, own_name}
use Rattle.audit_spared.proofs.SparedLemmas.WorkedPremises.{at_one, follow_one, late_by, here_by, order_by, others_by, own_names, ports_by}
use Rattle.law_model.specs.{EndRule}
use Rattle.audit_spared.proofs.SparedLemmas.WorkedLate.{late_refused}
use Rattle.audit_spared.proofs.SparedLemmas.WorkedCaptures.{late_there_lawful}
use Rattle.audit_spared.proofs.spared.worked.requests_must_not_come_late.Goals as goal

pub returns-clause-captures : goal.returns-clause-captures
returns-clause-captures x c there = at_one (λ e. FollowOneAnother (IsServedCapture own_name e) (filter (is_with e) (ack_again ∷ asked_late))) client c
    (follow_one (IsServedCapture own_name client) (filter (is_with client) (ack_again ∷ asked_late)) (filter (is_with client) (ack_again ∷ asked_late)) refl (late_by own_name client (filter (is_with client) (ack_again ∷ asked_late)) late_there_lawful refl)) there

pub returns-clause-here : goal.returns-clause-here
returns-clause-here x = here_by service one_client (ack_again ∷ asked_late) refl

pub returns-clause-others : goal.returns-clause-others
returns-clause-others x = others_by one_client (ack_again ∷ asked_late) refl

pub returns-clause-hosts : goal.returns-clause-hosts
returns-clause-hosts x = own_names

pub returns-clause-ports : goal.returns-clause-ports
returns-clause-ports x = ports_by one_client refl

pub returns-clause-order : goal.returns-clause-order
returns-clause-order x = order_by (ack_again ∷ asked_late) refl

pub returns-clause-accused : goal.returns-clause-accused
returns-clause-accused x = record {
  transfer = record { number = 3; client = client; asked = service; writes = false; has_window = false };
  at = refl;
  rule = Rule.Block EndRule.AckAhead;
  refused = late_refused;
  doubtless = refl;
}
