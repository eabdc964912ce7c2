use Rattle.std.proofs.Common.{◌≤◌, ◌++◌, List, ℕ, ap, ◌∙◌, arith}
use Rattle.std.proofs.KnownBytes.{Consumes-trans}
use Rattle.net_pcap.proofs.Rests.{end_reached}
use Rattle.net_pcap.proofs.skip.skip_to_end.Goals as goal

pub returns-clause-skips : goal.returns-clause-skips
returns-clause-skips g c =
    let (bytes, consumed, passed) = rw c.if-not-branch.false at c.in_ok-skip.ensures.skips in
    let (last, further, are) = c.gather.ensures.gathers in
    let large : 16 ≤ c.args.size = omega (arith, c.requires.least, c.requires.words, c.if-size-eq12.false) in (
      bytes ++ last,
      Consumes-trans _ _ _ bytes last consumed further,
      end_reached c.args.piece.now.items bytes last c.args.size c.requires.front large passed c.gather.result c.gather.new.piece.items (◌∙◌ {A = List ℕ} are (ap (λ (l : List ℕ). l ++ last) c.truncate.ensures.items)) c.gather.ensures.whole c.gather.ensures.part,
    )
