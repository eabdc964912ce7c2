use Rattle.tftp_packet.specs.{no_options}
use Rattle.law_tap.proofs.WorkedLossyRules.{ack_explained, ack_unbroken, ack_uncertain}
use Rattle.law_tap.proofs.losses_between.worked.an_ack_ahead_breaks_no_rule_with_losses.Goals as goal

pub returns-clause-ahead : goal.returns-clause-ahead
returns-clause-ahead c = λ e b. b.1 no_options 0 ack_explained

pub returns-clause-broken : goal.returns-clause-broken
returns-clause-broken c = ack_unbroken

pub returns-clause-certain : goal.returns-clause-certain
returns-clause-certain c = ack_uncertain
