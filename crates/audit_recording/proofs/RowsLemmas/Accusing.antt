-- Whom a refusal accuses sent the datagram, and is an end of the transfer.
use Rattle.std.proofs.Common.{◌≡◌, Bool, true, false, List, Option, Some, None, ◌||◌, ap, refl, subst, sym, if◌then◌else◌}
use Rattle.std.specs.Prelude.{option_map}
use Rattle.tftp_packet.specs.{End, Client, Server}
use Rattle.audit_flows.specs.Lines.{Placed, same_endpoint}
use Rattle.audit_flows.specs.{Endpoint, Transfer}
use Rattle.audit_recording.specs.Rows.Accusing.{accused_of, is_servers, role_at}
use Rattle.audit_recording.specs.declared.rows.accused.Accused.{Accused}

abbrev by : Endpoint → End → Accused
by source role = record { role = role; end = source }

sent_by : (role : Option End) (source : Endpoint) (a : Accused) → option_map (by source) role ≡ Some a → a.end ≡ source
sent_by None source a is = absurd (cc)
sent_by (Some role) source a is = let this : a ≡ by source role = cc in ap (λ b. b.end) this

abbrev role_of : Bool → Bool → Option End
role_of client server = if client then Some Client else if server then Some Server else None

ends_by : (client server : Bool) (source : Endpoint) (a : Accused) → option_map (by source) (role_of client server) ≡ Some a → (client || server) ≡ true
ends_by true server source a is = refl
ends_by false true source a is = refl
ends_by false false source a is = let none : None ≡ Some a = is in absurd (cc)

pub sent : (x : Transfer) (whole : List Placed) (p : Placed) (doubtful : Bool) (a : Accused) → accused_of x whole p doubtful ≡ Some a → a.end ≡ p.datagram.source
sent x whole p true a is = absurd (cc)
sent x whole p false a is = sent_by (role_at x whole p.datagram.source) p.datagram.source a is

pub ends : (x : Transfer) (whole : List Placed) (p : Placed) (doubtful : Bool) (a : Accused) → accused_of x whole p doubtful ≡ Some a
    → (same_endpoint a.end x.client || is_servers x whole a.end) ≡ true
ends x whole p true a is = absurd (cc)
ends x whole p false a is =
    subst (λ o. (same_endpoint o x.client || is_servers x whole o) ≡ true) (sym (sent x whole p false a is))
    (ends_by (same_endpoint p.datagram.source x.client) (is_servers x whole p.datagram.source) p.datagram.source a is)
