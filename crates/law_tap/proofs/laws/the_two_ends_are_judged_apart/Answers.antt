use Rattle.law_tap.proofs.Apart.{apart_is, one_sided_comes}
use Rattle.law_tap.proofs.laws.the_two_ends_are_judged_apart.Goals as goal

pub returns : goal.returns
returns c = record { tap = apart_is; end = one_sided_comes }
