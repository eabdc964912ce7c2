use Rattle.std.proofs.Common.{sym, ap, ◌∙◌, not}
use Rattle.tftp_packet.specs.{lower, map_of}
use Rattle.tftp_nego.specs.{IsLowered}
use Rattle.tftp_nego.proofs.OptionMaps.{not_named, named}
use Rattle.tftp_nego.proofs.Answering.{answered_none, unanswered}
use Rattle.tftp_nego.proofs.values.is_lowered.Goals as goal

pub returns-then-is_none-clause-yes : goal.returns-then-is_none-clause-yes
returns-then-is_none-clause-yes c = λ _. answered_none IsLowered c.args.request.now.options (map_of c.args.oack.now) (lower c.args.name.now)
    (not_named _ c.get.result c.args.oack.now (lower c.args.name.now) (c.is_none.ensures ∙ ap not c.if-is_none.true) c.get.ensures)

pub returns-in-None-clause-no : goal.returns-in-None-clause-no
returns-in-None-clause-no c = λ _. unanswered IsLowered c.args.request.now.options (map_of c.args.oack.now) (lower c.args.name.now) (sym c.in-None.is ∙ c.numbers.ensures)
    (named _ c.get.result c.args.oack.now (lower c.args.name.now) (c.is_none.ensures ∙ ap not c.if-is_none.false) c.get.ensures)
