-- Which packets are requests.
use Rattle.std.proofs.Common.{◌≡◌, ℕ, Bool, true, false, List, Option, Some, None, IfSome, ap, sym, true≢false}
use Rattle.tftp_packet.specs.{Message, Request, RequestParts, meaning}
use Rattle.tftp_packet.specs.AsWritten.{IsWritten, IsWrittenRequest}
use Rattle.tftp_packet.specs.declared.packet.Packet.{Packet}
use Rattle.tftp_packet.specs.declared.packet.Packet.TheVariants as packet
use Rattle.tftp_rows.specs.Asked.{request_of}

pub written_some : (payload : List ℕ) (p : Packet) → IsWritten payload p → IfSome (request_of p) (IsWrittenRequest payload)
written_some payload (packet.Request q) w = w
written_some payload (packet.Data block bytes) w = tt
written_some payload (packet.Ack block) w = tt
written_some payload (packet.Error code message) w = tt
written_some payload (packet.Oack pairs) w = tt

abbrev is_request : Message → Bool
is_request (Request q) = true
is_request _ = false

abbrev is_some : {A : Type 0} → Option A → Bool
is_some None = false
is_some (Some x) = true

pub written_none : (p : Packet) (q : RequestParts) → request_of p ≡ None → meaning p ≡ Request q → ⊥
written_none (packet.Request r) q e m = true≢false (ap is_some e)
written_none (packet.Data block bytes) q e m = true≢false (sym (ap is_request m))
written_none (packet.Ack block) q e m = true≢false (sym (ap is_request m))
written_none (packet.Error code message) q e m = true≢false (sym (ap is_request m))
written_none (packet.Oack pairs) q e m = true≢false (sym (ap is_request m))
