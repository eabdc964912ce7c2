use Rattle.std.proofs.Common.{◌≡◌, true, rules}
use Rattle.tftp_capture.specs.{says_nothing}
use Rattle.tftp_capture.proofs.Skips.{skipped_more, skipped_on}
use Rattle.tftp_capture.proofs.lines.Lines.next_said.Goals as goal

pub lines-preserved : goal.lines-preserved
lines-preserved g c =
    let nothing : says_nothing c.next.new.self.line ≡ true = search rules in
    record {
      tally = search rules;
      skips = skipped_on _ c.next.new.self c.pass_silent.new.self _ _ _ (skipped_more _ c.lines.self c.next.new.self _ _ _ _ c.in_ok-next.ensures.ends.0 c.lines.invariant.skips c.in_ok-next.ensures.ends.1 c.in_ok-next.ensures.ends.2 nothing c.in_ok-next.ensures.taken c.in_ok-next.ensures.count c.in_ok-next.ensures.version) (c.pass_silent.ensures.skips (g.R.Read.remaining c.next.new.reader.0));
    }
