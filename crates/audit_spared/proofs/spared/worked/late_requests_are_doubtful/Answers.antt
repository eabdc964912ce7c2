use Rattle.std.proofs.Common.{true, false, ◌∷◌, filter, refl}
use Rattle.law_end.specs.{Rule}
use Rattle.law_model.specs.{EndRule}
use Rattle.audit_flows.specs.Transfers.{client, service}
use Rattle.audit_spared.specs.Spared.Seen.{is_with}
use Rattle.audit_spared.specs.Spared.{IsServedCapture, FollowOneAnother}
use Rattle.audit_spared.specs.Spared.Worked.{block_acked_again, one_client, own_name, written_late}
use Rattle.audit_spared.proofs.SparedLemmas.WorkedPremises.{at_one, follow_one, late_by, here_by, order_by, others_by, own_names}
use Rattle.audit_spared.proofs.SparedLemmas.WorkedWrites.{acked_again_refused, all_lawful}
use Rattle.audit_spared.proofs.spared.worked.late_requests_are_doubtful.Goals as goal

pub returns-clause-meets : goal.returns-clause-meets
returns-clause-meets x = record {
  captures = λ c there. at_one (λ e. FollowOneAnother (IsServedCapture own_name e) (filter (is_with e) (block_acked_again ∷ written_late))) client c
      (follow_one (IsServedCapture own_name client) (block_acked_again ∷ written_late) (filter (is_with client) (block_acked_again ∷ written_late)) refl (late_by own_name client (block_acked_again ∷ written_late) all_lawful refl)) there;
  here = here_by service one_client (block_acked_again ∷ written_late) refl;
  others = others_by one_client (block_acked_again ∷ written_late) refl;
  hosts = own_names (block_acked_again ∷ written_late);
  order = order_by (block_acked_again ∷ written_late) refl;
}

pub returns-clause-refused : goal.returns-clause-refused
returns-clause-refused x = record {
  transfer = record { number = 4; client = client; asked = service; writes = true; has_window = false };
  at = refl;
  rule = Rule.Block EndRule.AckAhead;
  refused = acked_again_refused;
  doubtless = refl;
}
