use Rattle.std.proofs.Common.{ℕ, ap, ◌∙◌, ◌∷◌, [], sym}
use Rattle.std.proofs.lemmas.Result.{IfOk-weaker}
use Rattle.tftp_match.specs.Choice.{meant, of_pairs}
use Rattle.tftp_match.proofs.choosing.choose.Goals as goal

pub returns-in_ok-judge-in-Some-clause-choice : goal.returns-in_ok-judge-in-Some-clause-choice
returns-in_ok-judge-in-Some-clause-choice g c =
    let sides = rw c.in-Some.is at c.sole_pair.ensures.some in
    let judged = c.in_ok-judge-in-Some.ensures in
    meant _ (sides.0 ∙ ap (λ (pair : ℕ × ℕ). pair.0 ∷ []) (sym judged.numbers)) (sides.1 ∙ ap (λ (pair : ℕ × ℕ). pair.1 ∷ []) (sym judged.numbers)) judged.judged

pub returns-in-None-clause-choice : goal.returns-in-None-clause-choice
returns-in-None-clause-choice g c = IfOk-weaker c.choose_of_pairs.result _ _ (λ choice is. of_pairs choice (c.sole_pair.ensures.none c.in-None.is) is) c.choose_of_pairs.ensures.choice
