use Rattle.std.proofs.Common.{sym, ap, ◌∙◌}
use Rattle.std.specs.Ordering.{nat_cmp}
use Rattle.std.specs.Cmp.Lexicographic.{slice_cmp}
use Rattle.std.specs.FinMap as map
use Rattle.std.specs.FinMap.{empty_of_len, len-empty}
use Rattle.tftp_packet.specs.{OptionValue}
use Rattle.tftp_nego.proofs.agreed.Agreed.is_empty.Goals as goal

pub returns : goal.returns
returns c = (
  (λ is. sym c.self.view_is ∙ empty_of_len c.self.inside.options (c.is_empty.ensures.0 is)),
  (λ none. c.is_empty.ensures.1 (ap map.len (c.self.view_is ∙ none) ∙ len-empty (slice_cmp nat_cmp) OptionValue)),
)
