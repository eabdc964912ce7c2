pub mod Host
pub mod Capture
pub use Rattle.tftp_packet.specs.Hosts.Host.{Holds, IsHost, IsSign, no_host, padded}
pub use Rattle.tftp_packet.specs.Hosts.Capture.{Datagram, Header, PeerId, peer_cmp, peer_of, same_peer}
