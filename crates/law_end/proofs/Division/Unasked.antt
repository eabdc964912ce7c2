-- Before the first request the end has done nothing; and what something came from that is not the peer is a stray.
use Rattle.std.proofs.Common.{◌≡◌, true, false, [], ◌∷◌, None, Any, inl, inr, refl, sym, ap, ◌∙◌, ◌&&◌}
use Rattle.std.proofs.lemmas.Bool.{false≢true, and_parts, or_cases}
use Rattle.tftp_packet.specs.{End, Client, Server}
use Rattle.tftp_packet.specs.Hosts.{Datagram, Header, PeerId, peer_of, same_peer}
use Rattle.tftp_packet.specs.{In}
use Rattle.law_model.specs.Rules.{Route, comes_in, asks, first_of, has_come_from, route_of}
use Rattle.law_end.specs.Dress.{StrayAnswer}
use Rattle.law_end.specs.{Label, Main, Stray, Division, datagrams_of, view_in, packet_of, TransferIds, Saying, HasLabelBy, HaveLabelsBy, packet_route, label_route, AreRoutedBy, request_at, Starts}
use Rattle.law_end.proofs.FirstBroken.FirstRequests.{or_none, asks_is}
use Rattle.law_end.proofs.Division.RouteTests.{is_same}
use Rattle.law_end.proofs.Division.RoutesBack.{came_dir}
use Rattle.law_end.proofs.Division.Divided.{any_first, any_later}
use Rattle.law_end.proofs.Division.Placing.{one, starts_before, StrayFrom}

-- ---- before the first request the view is empty

request_route : (e : End) → packet_route (packet_of (request_at e)) ≡ Route.Request
request_route Client = refl
request_route Server = refl

module _ (h : Header) (says : Saying) where
  none_step : (d : Datagram) (label : Label) (earlier : Division) → Starts h.named (view_in (one d label earlier)) → route_of h (datagrams_of earlier) d ≡ label_route label → first_of (asks h) (datagrams_of earlier) ≡ None
      → asks h d ≡ false → view_in earlier ≡ [] → view_in (one d label earlier) ≡ []
  none_step d Stray earlier starts route none not_now empty = empty
  none_step d StrayAnswer earlier starts route none not_now empty = empty
  none_step d (Main deed) earlier starts route none not_now empty =
      let is : deed ≡ request_at h.named = starts.0.first empty in
      let asked = asks_is h (datagrams_of earlier) d none (route ∙ ap (λ x. packet_route (packet_of x)) is ∙ request_route h.named) in
      absurd (false≢true (sym not_now ∙ asked))

  -- what was done first is the request, and so one has passed
  pub none_view : (division : Division) → AreRoutedBy h says division → Starts h.named (view_in division) → first_of (asks h) (datagrams_of division) ≡ None → view_in division ≡ []
  none_view [] routed starts none = refl
  none_view (p ∷ earlier) routed starts none =
      let parts = or_none (first_of (asks h) (datagrams_of earlier)) (asks h p.datagram) p.datagram none in
      none_step p.datagram p.label earlier starts routed.0 parts.0 parts.1 (none_view earlier routed.2 (starts_before h.named p.datagram p.label earlier starts) parts.0)

-- ---- a stray is where something came from that is not the peer

module _ (h : Header) (says : Saying) (ids : TransferIds)
    (came : (d : Datagram) (label : Label) (earlier : Division) → HasLabelBy h says ids earlier d label → Starts h.named (view_in (one d label earlier)) → d.dir ≡ In → (peer_of d ≡ ids.peer → ⊥) → label ≡ Stray) where
  pub stray_from : (division : Division) → HaveLabelsBy h says ids division → Starts h.named (view_in division) → (peer : PeerId) → (peer ≡ ids.peer → ⊥) → has_come_from peer (datagrams_of division) ≡ true → Any (StrayFrom peer) division
  stray_from [] labels starts peer apart noted = absurd (false≢true noted)
  stray_from (p ∷ earlier) labels starts peer apart noted = elim (or_cases (comes_in p.datagram && same_peer (peer_of p.datagram) peer) (has_come_from peer (datagrams_of earlier)) noted) [
    | inl this ↦
        let a = and_parts (comes_in p.datagram) (same_peer (peer_of p.datagram) peer) this in
        let same = is_same (peer_of p.datagram) peer a.1 in
        any_first (StrayFrom peer) p earlier (came p.datagram p.label earlier labels.0 starts (came_dir p.datagram a.0) (λ e. apart (sym same ∙ e)), same)
    | inr before ↦ any_later (StrayFrom peer) p earlier (stray_from earlier labels.1 (starts_before h.named p.datagram p.label earlier starts) peer apart before)
  ]
