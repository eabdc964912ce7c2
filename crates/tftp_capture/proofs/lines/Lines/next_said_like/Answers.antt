use Rattle.std.proofs.Common.{◌≡◌, true, rules}
use Rattle.tftp_capture.specs.{says_nothing}
use Rattle.tftp_capture.proofs.Skips.{skipped_more, skipped_on}
use Rattle.tftp_capture.proofs.lines.Lines.next_said_like.Goals as goal

pub lines-preserved : goal.lines-preserved
lines-preserved g c =
    let nothing : says_nothing c.next_like.new.self.line ≡ true = search rules in
    record {
      tally = search rules;
      skips = skipped_on _ c.next_like.new.self c.pass_silent.new.self _ _ _ (skipped_more _ c.lines.self c.next_like.new.self _ _ _ _ c.in_ok-like.ensures.ends.0 c.lines.invariant.skips c.in_ok-like.ensures.ends.1 c.in_ok-like.ensures.ends.2 nothing c.in_ok-like.ensures.taken c.in_ok-like.ensures.count c.in_ok-like.ensures.version) (c.pass_silent.ensures.skips (g.R.Read.remaining c.next_like.new.reader.0));
    }
