use Rattle.std.proofs.Common.{filter, refl}
use Rattle.audit_flows.specs.Transfers.{client, service}
use Rattle.audit_spared.specs.Spared.Seen.{is_with}
use Rattle.audit_spared.specs.Spared.{IsTimelyCapture, IsWholeCapture, FollowOneAnother}
use Rattle.audit_spared.specs.Spared.Worked.{first_capture, first_served, one_client, own_name, second_capture, second_served, two_captures, two_served}
use Rattle.audit_spared.proofs.SparedLemmas.WorkedPremises.{at_one, follow_two, here_by, order_by, others_by, own_names, ports_by, served_by, whole_by}
use Rattle.audit_spared.proofs.SparedLemmas.WorkedCaptures.{first_lawful, first_there_lawful, second_lawful, second_there_lawful}
use Rattle.audit_spared.proofs.spared.worked.two_captures_meet_the_premises.Goals as goal

pub returns-clause-client : goal.returns-clause-client
returns-clause-client x = record {
  captures = λ c there. at_one (λ e. FollowOneAnother (IsWholeCapture own_name e) (filter (is_with e) two_captures)) client c
      (follow_two (IsWholeCapture own_name client) second_capture first_capture (filter (is_with client) two_captures) refl (whole_by own_name client second_capture second_lawful refl) (whole_by own_name client first_capture first_lawful refl)) there;
  others = others_by one_client two_captures refl;
  hosts = own_names two_captures;
  ports = ports_by one_client refl;
  order = order_by two_captures refl;
}

pub returns-clause-server : goal.returns-clause-server
returns-clause-server x = record {
  captures = λ c there. at_one (λ e. FollowOneAnother (IsTimelyCapture own_name e) (filter (is_with e) two_served)) client c
      (follow_two (IsTimelyCapture own_name client) second_served first_served (filter (is_with client) two_served) refl (served_by own_name client second_served second_there_lawful refl refl) (served_by own_name client first_served first_there_lawful refl refl)) there;
  here = here_by service one_client two_served refl;
  others = others_by one_client two_served refl;
  hosts = own_names two_served;
  order = order_by two_served refl;
}
