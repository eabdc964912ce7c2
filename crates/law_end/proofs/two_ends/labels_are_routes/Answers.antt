use Rattle.law_end.specs.{says_of}
use Rattle.law_end.proofs.Division.Routed.{told_of, routed_by, starts_of}
use Rattle.law_end.proofs.Division.Parted.{parted}
use Rattle.law_end.proofs.two_ends.labels_are_routes.Goals as goal

pub returns : goal.returns
returns c = record {
  routes = λ h m wire ids division labels starts. routed_by h (says_of m wire) (told_of m wire) ids division labels starts;
  labels = λ h m wire division routed starts. parted h (says_of m wire) division routed starts;
  starts = starts_of;
}
