-- When the client is none of the other two sides.
use Rattle.std.proofs.Common.{◌≡◌, ◌⊎◌, Bool, true, false, true≢false, List, refl, sym, ap, ◌∙◌, inl, inr, ◌||◌, ◌==◌, not}
use Rattle.std.proofs.lemmas.Bool.{and_from, eq-eqb, or_parts, or_cases}
use Rattle.tftp_packet.specs.Hosts.{same_peer}
use Rattle.tftp_ends.proofs.NotedPeers.{is_same}
use Rattle.audit_views.specs.Parties.{IsAddress}
use Rattle.audit_views.proofs.PartiesLemmas.Addresses.{called_one}
use Rattle.law_tap.specs.{AreApart, PeerId, TapSides}
use Rattle.audit_flows.specs.Lines.{same_address, same_endpoint, Placed}
use Rattle.audit_flows.specs.{Endpoint, Transfer}
use Rattle.audit_flows.specs.Transfers.{server_of}
use Rattle.audit_flows.proofs.LinesLemmas.Endpoints.{is_same as is_same_endpoint}
use Rattle.audit_recording.specs.Between.{are_apart, is_to_itself, peer_of, server_or_asked, sides_of}
use Rattle.law_end.proofs.Division.RouteTests.{same_is}

neither : (a b : Bool) → not (a || b) ≡ true → (a ≡ false) × (b ≡ false)
neither false false e = (refl, refl)
neither false true e = absurd (true≢false (sym e))
neither true b e = absurd (true≢false (sym e))

one_of : (a b : Bool) → not (a || b) ≡ false → (a ≡ true) ⊎ (b ≡ true)
one_of true b e = inl refl
one_of false true e = inr refl
one_of false false e = absurd (true≢false e)

first_is : (a b : Bool) → a ≡ true → not (a || b) ≡ false
first_is true b e = refl
first_is false b e = absurd (true≢false (sym e))

second_is : (a b : Bool) → b ≡ true → not (a || b) ≡ false
second_is true b e = refl
second_is false true e = refl
second_is false false e = absurd (true≢false (sym e))

pub not_apart : (s : TapSides) → are_apart s ≡ false → AreApart s → ⊥
not_apart s off apart = by (one_of (same_peer s.client s.server) (same_peer s.client s.asked) off) where
  by : (same_peer s.client s.server ≡ true) ⊎ (same_peer s.client s.asked ≡ true) → ⊥
  by (inl same) = apart.server (is_same s.client s.server same)
  by (inr same) = apart.asked (is_same s.client s.asked same)

-- the same endpoint has the same name
named_same : (one other : Endpoint) → same_endpoint one other ≡ true → same_peer (peer_of one) (peer_of other) ≡ true
named_same one other same = same_is (peer_of one) (peer_of other) (ap peer_of (is_same_endpoint one other same))

pub to_itself : (x : Transfer) (whole : List Placed) → is_to_itself x whole ≡ true → are_apart (sides_of x whole) ≡ false
to_itself x whole is = by (or_cases (same_endpoint x.client server) (same_endpoint x.client x.asked) is) where
  server : Endpoint
  server = server_or_asked x (server_of x.number whole)

  by : (same_endpoint x.client server ≡ true) ⊎ (same_endpoint x.client x.asked ≡ true) → are_apart (sides_of x whole) ≡ false
  by (inl same) = first_is (same_peer (peer_of x.client) (peer_of server)) (same_peer (peer_of x.client) (peer_of x.asked)) (named_same x.client server same)
  by (inr same) = second_is (same_peer (peer_of x.client) (peer_of server)) (same_peer (peer_of x.client) (peer_of x.asked)) (named_same x.client x.asked same)

-- ---- of addresses

-- hosts that are called the same are one
same_named : (one other : Endpoint) → IsAddress one.address → IsAddress other.address → peer_of one ≡ peer_of other → same_endpoint one other ≡ true
same_named one other here there same =
    and_from (one.port == other.port) (same_address one.address other.address)
    (eq-eqb one.port other.port (ap (λ (p : PeerId). p.port) same))
    ((called_one one.address other.address here there).1 (ap (λ (p : PeerId). p.host) same))

pub apart_from_both : (x : Transfer) (whole : List Placed) → IsAddress x.client.address → IsAddress x.asked.address → IsAddress (server_or_asked x (server_of x.number whole)).address
    → is_to_itself x whole ≡ false → AreApart (sides_of x whole)
apart_from_both x whole client asked serves off = record {
  server = λ same. true≢false (sym (same_named x.client server client serves same) ∙ differ.0);
  asked = λ same. true≢false (sym (same_named x.client x.asked client asked same) ∙ differ.1);
}
  where
    server : Endpoint
    server = server_or_asked x (server_of x.number whole)

    differ : (same_endpoint x.client server ≡ false) × (same_endpoint x.client x.asked ≡ false)
    differ = or_parts (same_endpoint x.client server) (same_endpoint x.client x.asked) off

pub apart_only : (x : Transfer) (whole : List Placed) → AreApart (sides_of x whole) → is_to_itself x whole ≡ false
apart_only x whole apart = by (is_to_itself x whole) refl where
  by : (b : Bool) → is_to_itself x whole ≡ b → is_to_itself x whole ≡ false
  by false is = is
  by true is = absurd (not_apart (sides_of x whole) (to_itself x whole is) apart)
