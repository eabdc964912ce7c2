use Rattle.std.proofs.Common.{◌≡◌, ℕ, Some, inl, inr, refl, sym, subst, arith}
use Rattle.law_tap.specs.LossyRules.{IsBlockLength}
use Rattle.law_tap.proofs.losses_between.worked.eight_bytes_fit.Goals as goal

pub returns-clause-lowered : goal.returns-clause-lowered
returns-clause-lowered c = record {
  numbered = omega arith;
  below = λ long is. let same : ◌≡◌ {A = ℕ} 8 long = cc in sym same;
  tail = λ long is. let same : ◌≡◌ {A = ℕ} 3 long = cc in inl (omega (arith, same));
}

pub returns-clause-usual : goal.returns-clause-usual
returns-clause-usual c = λ fits. let bad = fits.below 8 refl in omega (arith, bad)

pub returns-clause-total : goal.returns-clause-total
returns-clause-total c = record {
  numbered = omega arith;
  reach = omega arith;
  below = λ long is. let same : ◌≡◌ {A = ℕ} 8 long = cc in sym same;
  tail = λ long is. let same : ◌≡◌ {A = ℕ} 3 long = cc in inr (refl, sym same);
}
