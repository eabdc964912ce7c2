use Rattle.std.proofs.Common.{◌≡◌, Some, None, codes, refl, sym, ◌∙◌}
use Rattle.tftp_packet.specs.{Num}
use Rattle.law_end.proofs.Soundness.MadeMeaning.{none_found, none_may_be_agreed}
use Rattle.law_tap.specs.WorkedLosses.{sized_request}
use Rattle.law_tap.proofs.WorkedLossyRules.{hi_given, hi_zero, hi_few, hi_numbers, hi_blocks}
use Rattle.law_tap.proofs.losses_between.worked.a_size_binds_nothing_before_its_oack.Goals as goal

pub returns : goal.returns
returns c = record {
  may = none_may_be_agreed None sized_request;
  spelled = λ some. absurd (some refl);
  given = hi_given;
  zero = λ get e said. hi_zero e said;
  size = λ octet size has. let both : None ≡ Some (Num size) = sym (none_found (codes "tsize")) ∙ has in absurd (cc);
  numbered = hi_few;
  numbers = hi_numbers;
  blocks = hi_blocks;
}
