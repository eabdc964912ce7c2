use Rattle.std.proofs.Common.{◌≡◌, ◌≤◌, length, take, arith, length-take-le}
use Rattle.net_streams.proofs.StreamsLemmas.ReadBehind.{take_put}
use Rattle.net_streams.proofs.streams.read_buffer.read_behind.Goals as goal

pub returns-clause-more : goal.returns-clause-more
returns-clause-more g c =
    let count = c.in_ok-count.count in
    let new = c.read.new.buf in
    let fits : count ≤ length new = c.in_ok-count.ensures.bound.0 in
    let size : length new ≡ c.args.wanted = omega (arith, c.read.auto.buf, c.requires.room) in (
      take count new,
      take_put c.args.end _ count c.args.buf.now new (omega (arith, c.requires.room)) fits,
      length-take-le count new fits,
      omega (arith, fits, size),
      c.in_ok-count.ensures.bytes.0,
      λ none. c.in_ok-count.ensures.bytes.1 none (omega (arith, size, c.requires.some)),
    )
