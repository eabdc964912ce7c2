use Rattle.std.proofs.Common.{drop, refl, ap, ◌∙◌}
use Rattle.tftp_capture.proofs.Skips.{skipped_held}
use Rattle.tftp_capture.proofs.lines.Lines.pass_silent.Goals as goal

pub returns : goal.returns
returns c = record {
  skips = λ known.
      let size = c.silent_lines-size.result.0 in
      let begins = rw (c.longest_line-longest.ensures, c.as_slice.ensures, c.consume.ensures.value) at c.silent_lines-size.ensures.begins in
      let ahead = c.consume-2.ensures.value ∙ ap (drop size) c.consume.ensures.value in
      rw (← c.self.view_is) (skipped_held _ _ size c.silent_lines-size.result.1 known begins ahead refl refl refl);
}
