-- What a capture wants of the datagrams that have passed.
use Rattle.std.specs.Prelude.{◌<◌, ◌≤◌, ℕ, length, slice_index}
use Rattle.tftp_capture.specs.{IsPort}
use Rattle.audit_views.specs.Parties.{IsAddress}
use Rattle.audit_flows.specs.Lines.{Recorded}
use Rattle.audit_flows.specs.{Endpoint}

-- its address is one of IPv4 or IPv6, and its port none of 0
abbrev pub IsSoundEnd : Endpoint → Type 0
IsSoundEnd e = IsAddress e.address × IsPort e.port

-- both ends are sound, and the payload is of bytes and fits a datagram of UDP (RFC 768)
pub record IsSoundDatagram (d : Recorded) : Type 0 where
  pub source : IsSoundEnd d.source
  pub target : IsSoundEnd d.target
  pub bytes : (k : ℕ) → slice_index d.payload k < 256
  pub fits : length d.payload ≤ 65527
