use Rattle.std.proofs.Common.{◌≡◌, ap, ◌∙◌, arith}
use Rattle.tftp_packet.specs.Rounds.{position_of}
use Rattle.judge_tap.proofs.reading.position.Goals as goal

pub returns : goal.returns
returns c = λ low.
    let least = c.min.ensures in
    let all = c.greatest_block.ensures in
    let near : c.min.result ≡ c.args.highest = omega (arith, low, least, all) in
    c.position.ensures ∙ ap (λ k. position_of c.args.rollover k c.args.number) near
