use Rattle.std.proofs.Common.{zero, refl}
use Rattle.net_udp.specs.Frames.{linked, reached}
use Rattle.net_udp.proofs.FramesLemmas.Tunnels.{inside_shorter, none_inside, step}
use Rattle.net_udp.proofs.frames.tunnel.open_tunnels.Goals as goal

pub tunnels-preserved : goal.tunnels-preserved
tunnels-preserved c inner =
    let opened = c.in-Some.ensures in
    let next = step (linked c.tunnels.inner) (linked c.in-Some-inside.next) inner opened.0 (reached c.in-Some.upper) opened.1 opened.2 c.in-Some-inside.ensures.0 c.in-Some-inside.ensures.1 in
    ((λ s. next.0 ((c.tunnels.invariant inner).0 s)), λ s. (c.tunnels.invariant inner).1 (next.1 s))

pub tunnels-smaller : goal.tunnels-smaller
tunnels-smaller c = inside_shorter c.in-Some.ensures.0 c.tunnels.inner.content.now (reached c.in-Some.upper) (linked c.in-Some-inside.next) c.in-Some.ensures.2 c.in-Some-inside.ensures.0

pub returns-in_default-inside : goal.returns-in_default-inside
returns-in_default-inside c inner s = none_inside (linked c.tunnels.inner) inner c.in-Some.ensures.0 (reached c.in-Some.upper) c.in-Some.ensures.1 c.in-Some.ensures.2 c.in_default-inside.ensures ((c.tunnels.invariant inner).0 s)

pub returns : goal.returns
returns c = (c.tunnels.invariant (linked c.tunnels.inner)).1 (zero, (c.in_default.ensures, refl))
