use Rattle.std.proofs.Common.{[], reverse, refl, sym, subst}
use Rattle.judge_losses.specs.Places.{Fills, none}
use Rattle.judge_losses.proofs.mender.Mender.new.Goals as goal

pub returns : goal.returns
returns c = record {
  all = [];
  judged = c.new.ensures;
  filled = subst (λ places. Fills (reverse places) [] []) (sym c.new-3.ensures.items) none;
  count = refl;
  goes_on = refl;
}
