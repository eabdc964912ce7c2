use Rattle.std.proofs.Common.{sym, ◌∙◌, codes}
use Rattle.tftp_nego.proofs.OptionMaps.{named, is_named}
use Rattle.tftp_nego.proofs.names.names_multicast.Goals as goal

pub returns : goal.returns
returns c = (
  (λ is. named _ c.get.result c.args.oack.now (codes "multicast") (sym c.is_some.ensures ∙ is) c.get.ensures),
  (λ has. c.is_some.ensures ∙ is_named _ c.get.result c.args.oack.now (codes "multicast") has c.get.ensures),
)
