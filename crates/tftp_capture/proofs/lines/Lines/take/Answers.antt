use Rattle.std.proofs.Common.{◌+◌, take, drop, ap, ◌∙◌, rules, arith, refl}
use Rattle.tftp_capture.proofs.Bytes.{line_lies}
use Rattle.tftp_capture.proofs.Skips.{reaches_held}
use Rattle.tftp_capture.proofs.lines.Lines.take.Goals as goal

pub returns-clause-reaches : goal.returns-clause-reaches
returns-clause-reaches c = λ _ known.
    let size = c.args.size in
    let line = line_lies size c.consume.new.self.bytes ∙ ap (take size) c.consume.ensures.value in
    rw (← c.self.view_is)
    (reaches_held _ _ size known (rw (← c.self.view_is) at c.requires.line) (search rules) (omega (arith, c.if-self-size.false)) line (ap (drop (size + 1)) c.consume.ensures.value) refl refl refl)
