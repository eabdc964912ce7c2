use Rattle.std.proofs.Common.{◌+◌, ap, ◌∙◌}
use Rattle.judge_pair.specs.Counts.Counts.{lost_below, repeated_below}
use Rattle.judge_pair.proofs.counts.laws.both_ways_are_counted.Goals as goal

pub returns-clause-lost : goal.returns-clause-lost
returns-clause-lost c one other count above are is =
    are.sum ∙ ap (λ n. n + are.back) (are.are_there above is) ∙ ap (λ n. lost_below above one other + n) (are.are_back above is)

pub returns-clause-repeated : goal.returns-clause-repeated
returns-clause-repeated c one other count above are is =
    are.sum ∙ ap (λ n. n + are.back) (are.are_there above is) ∙ ap (λ n. repeated_below above one other + n) (are.are_back above is)
