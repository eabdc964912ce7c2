-- A capture: where it was taken, and what passed there (RFC 1350, section 4).
use Rattle.std.specs.Prelude.{ℕ, ◌==◌, ◌&&◌, Bool, List, Option}
use Rattle.std.specs.Str.{bytes_eq}
use Rattle.std.specs.declared.cmp.Ordering.{Ordering}
use Rattle.std.specs.Ordering.{nat_cmp, on, then_cmp}
use Rattle.std.specs.Cmp.Lexicographic.{slice_cmp}
use Rattle.tftp_packet.specs.declared.hosts.dir.Dir.{Dir}
use Rattle.tftp_packet.specs.{End}
use Rattle.tftp_packet.specs.declared.rounds.rollover.Rollover.{Rollover}

-- whose capture it is, the port at which a server is asked, and what comes after block 65535, where anything does
pub record Header : Type 0 where
  pub named : End
  pub service : ℕ
  pub rollover : Option Rollover

-- which way, between which ports, to or from which host and with which payload a datagram passed
pub record Datagram : Type 0 where
  pub dir : Dir
  pub local : ℕ
  pub host : List ℕ
  pub remote : ℕ
  pub payload : List ℕ

-- the other side of a datagram: a host, and a port there (RFC 1350, section 4)
pub record PeerId : Type 0 where
  pub host : List ℕ
  pub port : ℕ

abbrev pub peer_of : Datagram → PeerId
peer_of d = record { host = d.host; port = d.remote }

-- the same port, and the same host, byte by byte
abbrev pub same_peer : PeerId → PeerId → Bool
same_peer one other = (one.port == other.port) && bytes_eq one.host other.host

-- an order of peers: by the port, and then by the bytes of the host
abbrev pub peer_cmp : PeerId → PeerId → Ordering
peer_cmp = then_cmp (on (λ p. p.port) nat_cmp) (on (λ p. p.host) (slice_cmp nat_cmp))
