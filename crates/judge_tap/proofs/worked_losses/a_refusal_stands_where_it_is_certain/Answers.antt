use Rattle.std.proofs.Common.{◌≡◌, true, false, Some, inl, inr, refl}
use Rattle.law_tap.proofs.WorkedLossyRules.{ack_uncertain}
use Rattle.law_model.specs.{EndRule}
use Rattle.law_end.specs.declared.rule.Rule.TheVariants as rule
use Rattle.judge_tap.specs.{IsStandingBy}
use Rattle.judge_tap.proofs.WorkedLossy.{above_refused}
use Rattle.judge_tap.proofs.worked_losses.a_refusal_stands_where_it_is_certain.Goals as goal

pub returns-clause-above : goal.returns-clause-above
returns-clause-above c = above_refused.2

pub returns-clause-missed : goal.returns-clause-missed
returns-clause-missed c = (λ b. b, λ _. ack_uncertain)

pub returns-clause-never : goal.returns-clause-never
returns-clause-never c = ack_uncertain

pub returns-clause-name : goal.returns-clause-name
returns-clause-name c = inl (tt, refl)

not_by_name : IsStandingBy (rule.Block EndRule.AckAhead) (Some false) (Some true) → ⊥
not_by_name (inl (name, is)) = name
not_by_name (inr (other, is)) = let bad : Some true ≡ Some false = is in absurd (cc)

pub returns-clause-told : goal.returns-clause-told
returns-clause-told c = not_by_name
