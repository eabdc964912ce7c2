use Rattle.std.proofs.Common.{sym, ◌∙◌}
use Rattle.std.proofs.lemmas.Bool.{false≢true}
use Rattle.tftp_packet.specs.{map_of}
use Rattle.tftp_judge.proofs.MessageFound.{later_late, later_passes}
use Rattle.tftp_judge.proofs.transfer.Transfer.later_oack.Goals as goal

pub returns-then-late_oack-clause-finds : goal.returns-then-late_oack-clause-finds
returns-then-late_oack-clause-finds g c = λ h passed after.
    later_late c.args.self.now.asked.side passed c.args.dir c.args.first.now (map_of c.args.oack.now) (sym (c.same_options.ensures.0 c.if-not-same_options.false) ∙ c.options.ensures ∙ c.agreed.ensures) ((c.late_oack.ensures h passed after).0 c.if-late_oack.true)

pub returns-clause-finds : goal.returns-clause-finds
returns-clause-finds g c = λ h passed after. (
  later_passes c.args.self.now.asked.side passed c.args.dir c.args.first.now (map_of c.args.oack.now) (sym (c.same_options.ensures.0 c.if-not-same_options.false) ∙ c.options.ensures ∙ c.agreed.ensures) (λ late. false≢true (sym c.if-late_oack.false ∙ (c.late_oack.ensures h passed after).1 late)),
  tt,
)
