use Rattle.net_udp.proofs.FramesLemmas.Opened.{opens_none, opens_none_in}
use Rattle.net_udp.proofs.FramesLemmas.Tunnels.{plainly}
use Rattle.net_udp.proofs.frames.tunnel_laws.tftp_opens_no_tunnel.Goals as goal

pub returns-clause-none : goal.returns-clause-none
returns-clause-none c = opens_none

pub returns-clause-itself : goal.returns-clause-itself
returns-clause-itself c number frame rest code link carried network r named linked is reaches udp begins some few =
    (link, named, plainly link frame carried network r linked is reaches (opens_none_in r rest code udp begins some few))
