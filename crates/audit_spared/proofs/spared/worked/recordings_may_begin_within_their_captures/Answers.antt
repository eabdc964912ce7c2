use Rattle.std.proofs.Common.{false, [], ◌∷◌, ◌++◌, codes, filter, refl}
use Rattle.law_end.specs.{Rule}
use Rattle.law_model.specs.{PortRule}
use Rattle.audit_flows.specs.Transfers.{client, service}
use Rattle.audit_flows.specs.Transfers.Worked.{requests}
use Rattle.audit_spared.specs.Spared.Seen.{as_seen_by, at_client_of, is_with}
use Rattle.audit_spared.specs.Spared.{FollowOneAnother, IsWholeCapture}
use Rattle.audit_spared.specs.Spared.Worked.{ack_of_block, asked_again_only, block_came, one_client, own_name}
use Rattle.audit_spared.proofs.SparedLemmas.ClientEnd.{lawful_at}
use Rattle.audit_spared.proofs.SparedLemmas.WorkedPremises.{at_one, follow_one, order_by, others_by, own_names, ports_by, whole_by, wrong_port}
use Rattle.audit_spared.proofs.SparedLemmas.WorkedCaptures.{silent_lawful}
use Rattle.audit_spared.proofs.spared.worked.recordings_may_begin_within_their_captures.Goals as goal

pub returns-clause-meets : goal.returns-clause-meets
returns-clause-meets x = record {
  captures = λ c there. at_one (λ e. FollowOneAnother (IsWholeCapture own_name e) (filter (is_with e) (ack_of_block ∷ asked_again_only ++ block_came))) client c
      (follow_one (IsWholeCapture own_name client) (ack_of_block ∷ asked_again_only ++ block_came) (filter (is_with client) (ack_of_block ∷ asked_again_only ++ block_came)) refl
      (whole_by own_name client (ack_of_block ∷ asked_again_only ++ block_came) silent_lawful refl)) there;
  others = others_by one_client (ack_of_block ∷ asked_again_only ++ block_came) refl;
  hosts = own_names (ack_of_block ∷ asked_again_only ++ block_came);
  ports = ports_by one_client refl;
  order = order_by (ack_of_block ∷ asked_again_only ++ block_came) refl;
}

pub returns-clause-refused : goal.returns-clause-refused
returns-clause-refused x = record {
  transfer = record { number = 0; client = client; asked = service; writes = false; has_window = false };
  at = refl;
  rule = Rule.Port PortRule.Wrong;
  refused = wrong_port (at_client_of 69) (as_seen_by own_name client (requests 2 client service (codes "f")) ∷ []) (as_seen_by own_name client ack_of_block)
      (lawful_at own_name client (ack_of_block ∷ asked_again_only ++ block_came) silent_lawful).1.1.1 refl;
  doubtless = refl;
}
