use Rattle.law_end.specs.{says_some}
use Rattle.law_end.proofs.Division.Parted.{parted}
use Rattle.law_end.proofs.Division.OneDivision.{placed_divides, divides_placed, divides_routed, divides_one, run_divides}
use Rattle.law_end.proofs.two_ends.a_list_divides_in_one_way.Goals as goal

pub returns : goal.returns
returns c = record {
  divides = λ h earlier. (placed_divides h earlier, divides_placed h earlier);
  labels = λ h division routed starts. parted h says_some division routed starts;
  routes = divides_routed;
  one = divides_one;
  of_run = run_divides;
}
