use Rattle.std.proofs.Common.{refl, ap}
use Rattle.law_tap.specs.{TapSides}
use Rattle.judge_tap.proofs.keeping.TapState.new.Goals as goal

pub returns-clause-kept : goal.returns-clause-kept
returns-clause-kept g c = record {
  sides = refl;
  ports = c.new.ensures;
  kept = refl;
  told = c.nothing.ensures c.args.sides (ap (λ (x : TapSides). x.rollover) c.sides.view_is);
}
