use Rattle.std.proofs.Common.{◌≡◌, ◌∙◌, ap, refl}
use Rattle.tftp_packet.specs.Hosts.{PeerId}
use Rattle.tftp_ends.specs.Rows.{mark_of}
use Rattle.tftp_ends.proofs.linked.mark.Goals as goal

pub returns : goal.returns
returns c =
    let held : PeerId = record { host = c.peer.inside.host; port = c.peer.inside.port } in
    let marked : c.finish.result ≡ mark_of held =
    unfold mark_of in rw (c.finish.ensures, c.write_u16.ensures, c.write.ensures, c.new-hasher.ensures, c.bytes.ensures.value) refl in
    marked ∙ ap mark_of c.peer.view_is
