use Rattle.net_udp.specs.Frames.{reached}
use Rattle.net_udp.proofs.FramesLemmas.Tunnels.{stands_in_gre, stands_in_udp}
use Rattle.net_udp.proofs.frames.tunnel.inside.Goals as goal

pub returns-then-upper-eq-GRE : goal.returns-then-upper-eq-GRE
returns-then-upper-eq-GRE c = stands_in_gre (reached c.args.upper) c.args.direction c.read_gre.result c.if-upper-eq-GRE.true c.read_gre.ensures

pub returns-then-upper-eq-UDP : goal.returns-then-upper-eq-UDP
returns-then-upper-eq-UDP c = stands_in_udp (reached c.args.upper) c.args.direction c.read_over_udp.result c.if-upper-eq-UDP.true c.read_over_udp.ensures
