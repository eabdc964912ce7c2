use Rattle.std.proofs.Common.{max, refl, sym, ap, subst, ◌∙◌}
use Rattle.tftp_capture.specs.{datagram_of}
use Rattle.law_model.specs.Rules.{IsHigh}
use Rattle.tftp_packet.specs.Rounds.{position_of}
use Rattle.tftp_commands.proofs.NumbersKept.{apart_read, block_read, none_read}
use Rattle.tftp_commands.proofs.numbers.Numbers.highest_with.Goals as goal

pub returns-then-not-is_between-clause-high : goal.returns-then-not-is_between-clause-high
returns-then-not-is_between-clause-high c = λ h earlier kept. apart_read c.args.rollover c.args.self.now h earlier kept (datagram_of c.args.datagram.now) (sym c.if-not-is_between.ensures)

pub returns-in-Some-clause-high : goal.returns-in-Some-clause-high
returns-in-Some-clause-high c = λ h earlier kept.
    let spells = rw c.as_slice.ensures at c.in-Some.ensures.spelled in
    let is = c.max.ensures ∙ ap (max c.args.self.now.highest) (c.block_near-block.ensures ∙ ap (position_of c.args.rollover c.args.self.now.highest) c.from.ensures) in
    subst (IsHigh _) (sym is) (block_read c.args.rollover c.args.self.now h earlier kept (datagram_of c.args.datagram.now) c.in-Some.number c.in-Some.field-0-1.now spells (sym c.if-not-is_between.ensures))

pub returns-in-None-clause-high : goal.returns-in-None-clause-high
returns-in-None-clause-high c = λ h earlier kept. none_read c.args.rollover c.args.self.now h earlier kept (datagram_of c.args.datagram.now) (rw c.as_slice.ensures at (c.in-None.ensures.none refl))
