-- What is fed has passed as it was recorded.
use Rattle.std.proofs.Common.{◌≡◌, ℕ, true, cond, List, ◌∷◌, sym, ap, ◌∙◌, map, filter}
use Rattle.audit_views.specs.Parties.{host_name}
use Rattle.audit_flows.specs.Lines.{Placed, is_of}
use Rattle.audit_flows.specs.{Endpoint, Transfer}
use Rattle.audit_views.specs.Views.{IsFed}
use Rattle.audit_views.specs.{Held, Party}
use Rattle.audit_recording.specs.Between.{between_capture, passed_of, peer_of, passed_as, side_of}

party_is : (end : Endpoint) (party : Party) → end ≡ party.end → party.host ≡ host_name party.end.address → peer_of end ≡ side_of party
party_is end party same named = ap peer_of same ∙ ap (λ (h : List ℕ). record { host = h; port = party.end.port }) (sym named)

pub passed_fed : (p : Placed) (h : Held) → IsFed host_name p h → passed_of p.datagram ≡ passed_as h
passed_fed p h fed =
    let from : peer_of p.datagram.source ≡ side_of h.source = party_is p.datagram.source h.source fed.from fed.from_host in
    let to : peer_of p.datagram.target ≡ side_of h.target = party_is p.datagram.target h.target fed.to fed.to_host in
    λ i. record { source = from i; destination = to i; payload = fed.carries i }

pub captured_too : (x : Transfer) (p : Placed) (older : List Placed) → is_of x.number p ≡ true → between_capture x (p ∷ older) ≡ passed_of p.datagram ∷ between_capture x older
captured_too x p older is = ap (λ b. map (λ (p : Placed). passed_of p.datagram) (cond b (p ∷ filter (is_of x.number) older) (filter (is_of x.number) older))) is
