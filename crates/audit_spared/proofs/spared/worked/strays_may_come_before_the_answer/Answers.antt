use Rattle.std.proofs.Common.{false, [], ◌∷◌, codes, filter, refl}
use Rattle.law_end.specs.{Rule}
use Rattle.law_model.specs.{PortRule}
use Rattle.audit_flows.specs.Transfers.{client, data_of, service}
use Rattle.audit_flows.specs.Transfers.Worked.{error_of, next_server, passes, requests, server}
use Rattle.audit_spared.specs.Spared.Seen.{as_seen_by, at_client_of}
use Rattle.audit_spared.specs.Spared.{FollowOneAnother, IsStrayedCapture, is_busy}
use Rattle.audit_spared.specs.Spared.Worked.{ack_of_answer, first_capture, is_late_block, is_of_before, begun_within, one_client, own_name}
use Rattle.audit_spared.proofs.SparedLemmas.ClientEnd.{lawful_at}
use Rattle.audit_spared.proofs.SparedLemmas.WorkedPremises.{at_one, follow_two, order_by, others_by, own_names, ports_by, steady_by}
use Rattle.audit_spared.proofs.SparedLemmas.WorkedCaptures.{first_lawful, second_lawful}
use Rattle.audit_spared.proofs.SparedLemmas.WorkedStrays.{bad_answer, first_apart_all, late_apart_all, late_idle, late_lawful, late_second}
use Rattle.audit_spared.proofs.spared.worked.strays_may_come_before_the_answer.Goals as goal

pub returns-clause-meets : goal.returns-clause-meets
returns-clause-meets x = record {
  captures = λ c there. at_one (λ e. FollowOneAnother (IsStrayedCapture own_name is_late_block e) (filter (is_busy is_of_before e) (ack_of_answer ∷ begun_within))) client c
      (follow_two (IsStrayedCapture own_name is_late_block client) (ack_of_answer ∷ late_second) first_capture (filter (is_busy is_of_before client) (ack_of_answer ∷ begun_within)) refl
      (record { lawful = second_lawful; apart = late_apart_all; steady = steady_by (ack_of_answer ∷ late_second) refl })
      (record { lawful = first_lawful; apart = first_apart_all; steady = steady_by first_capture refl })) there;
  idles = late_idle;
  others = others_by one_client (ack_of_answer ∷ begun_within) refl;
  hosts = own_names (ack_of_answer ∷ begun_within);
  ports = ports_by one_client refl;
  order = order_by (ack_of_answer ∷ begun_within) refl;
}

pub returns-clause-fourth : goal.returns-clause-fourth
returns-clause-fourth x = record {
  transfer = record { number = 7; client = client; asked = service; writes = false; has_window = false };
  at = refl;
  rule = Rule.Port PortRule.BadAnswer;
  refused = bad_answer (at_client_of 69)
      (as_seen_by own_name client (passes 8 next_server client (data_of 1)) ∷ as_seen_by own_name client (passes 8 client server (error_of 5)) ∷ as_seen_by own_name client (passes 7 server client (data_of 1)) ∷ as_seen_by own_name client (requests 7 client service (codes "g")) ∷ [])
      (as_seen_by own_name client ack_of_answer) (lawful_at own_name client late_second late_lawful) refl;
  doubtless = refl;
}
