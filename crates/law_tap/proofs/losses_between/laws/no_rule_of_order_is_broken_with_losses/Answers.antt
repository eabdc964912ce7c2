use Rattle.std.proofs.Common.{List, inl, inr}
use Rattle.tftp_packet.specs.{RequestParts, Message, End}
use Rattle.law_model.specs.{EndRule}
use Rattle.law_end.specs.{Rule}
use Rattle.law_end.specs.declared.rule.Rule.TheVariants as rule
use Rattle.law_tap.specs.{TapDatagram, TapSides}
use Rattle.law_tap.specs.LossyRules.{LossyBreaks, LossyBroken, IsOfOrder}
use Rattle.law_tap.proofs.losses_between.laws.no_rule_of_order_is_broken_with_losses.Goals as goal

module _ (s : TapSides) (earlier : List TapDatagram) (d : TapDatagram) (asked : RequestParts) (e : End) where
  says_nothing : (m : Message) (broken : Rule) → IsOfOrder broken → LossyBreaks s earlier d asked e m broken → ⊥
  says_nothing (Message.Request now) rule.NoRequest order b = b
  says_nothing _ rule.NoRequest order b = b
  says_nothing _ rule.RequestAfterStart order b = b
  says_nothing _ rule.OackAfterStart order b = b
  says_nothing _ (rule.Block EndRule.NotStarted) order b = b
  says_nothing _ (rule.Block EndRule.WindowOverrun) order b = b
  says_nothing _ (rule.Block EndRule.BlockSkipped) order b = b
  says_nothing _ (rule.Block EndRule.GoneBack) order b = b
  says_nothing m _ order b = absurd order

module _ (s : TapSides) (earlier : List TapDatagram) (d : TapDatagram) where
  in_one : (broken : Rule) → IsOfOrder broken → LossyBroken s earlier d broken → ⊥
  in_one rule.NoRequest order (inl b) = b
  in_one rule.RequestAfterStart order (inl b) = b
  in_one rule.OackAfterStart order (inl b) = b
  in_one (rule.Block of_blocks) order (inl b) = b
  in_one rule.NoRequest order (inr (inl b)) = b
  in_one rule.RequestAfterStart order (inr (inl b)) = b
  in_one rule.OackAfterStart order (inr (inl b)) = b
  in_one (rule.Block of_blocks) order (inr (inl b)) = b
  in_one broken order (inr (inr b)) = says_nothing s earlier d b.asked b.end b.message broken order b.breaks
  in_one _ order b = absurd order

pub returns : goal.returns
returns c = in_one
