use Rattle.std.proofs.Common.{[], ◌∷◌, inr}
use Rattle.tftp_packet.specs.{Message, Server}
use Rattle.law_tap.proofs.WorkedLossyRules.{asked, ho_said, hi_before, asked_before, ho_differs, change_certain}
use Rattle.law_tap.proofs.losses_between.worked.a_changed_block_is_certain_between.Goals as goal

pub returns-clause-broken : goal.returns-clause-broken
returns-clause-broken c = inr (inr (record {
  end = Server;
  message = Message.Data 1 (104 ∷ 111 ∷ []);
  says = ho_said;
  asked = asked;
  request = asked_before;
  breaks = (104 ∷ 105 ∷ [], hi_before, ho_differs);
}))

pub returns-clause-certain : goal.returns-clause-certain
returns-clause-certain c = change_certain
