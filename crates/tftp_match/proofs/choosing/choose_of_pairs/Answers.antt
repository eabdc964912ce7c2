use Rattle.std.proofs.Common.{ℕ, arith, length, sym, ◌∙◌, ap}
use Rattle.tftp_match.specs.Choice.{matched_in, sole}
use Rattle.tftp_match.proofs.choosing.choose_of_pairs.Goals as goal

pub returns-in-Some-clause-choice : goal.returns-in-Some-clause-choice
returns-in-Some-clause-choice g c = record {
  tried = c.in_ok-tried.tried.items;
  all = record { pairs = c.in_ok-pairs.pairs.items; are = c.in_ok-pairs.ensures.pairs; few = omega (arith, c.if-len-gt-MOST_PAIRS.false, c.len.ensures, c.as_slice.ensures.len, ap length c.as_slice.ensures.value); each = rw c.as_slice.ensures.value at c.in_ok-tried.ensures.tried };
  one = c.in-Some.pair;
  alone = ap (λ tried. sole (matched_in tried)) (sym c.as_slice-2.ensures.value) ∙ (sym c.chosen.ensures ∙ c.in-Some.is);
  client = ap (λ (pair : ℕ × ℕ). pair.0) c.in_ok-judge-in-Some.ensures.numbers;
  server = ap (λ (pair : ℕ × ℕ). pair.1) c.in_ok-judge-in-Some.ensures.numbers;
  judged = c.in_ok-judge-in-Some.ensures.judged;
}
