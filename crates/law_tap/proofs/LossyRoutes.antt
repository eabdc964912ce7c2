-- The route that a datagram has whatever is missing is that of its label.
use Rattle.std.proofs.Common.{◌≡◌, true, false, refl, sym, ◌∙◌}
use Rattle.tftp_packet.specs.{Message, End, Client, Server}
use Rattle.tftp_packet.specs.Hosts.{same_peer}
use Rattle.law_model.specs.Model.{MachinePacket, Req}
use Rattle.law_end.specs.{says_some}
use Rattle.law_end.proofs.Division.RouteTests.{same_is, other_peer}
use Rattle.law_tap.specs.{Pass, is_request, TapDatagram, TapSides, side_of, AreApart, TapLabel, Main, TapDivision, GoesThere, CarriesPass, PassesAstray, AnswersTapStray, HasTapLabel, HaveTapLabels, asks_in, ends_in, TapRoute}
use Rattle.law_tap.specs.TapDress.{Stray, StrayAnswer}
use Rattle.law_tap.specs.LossyRules.{lossy_route}
use Rattle.law_tap.proofs.OneTapDivision.{no_stray_side}
use Rattle.law_tap.proofs.TapRouted.{pass_route, label_route, no_request_in}
use Rattle.law_tap.proofs.TapTests.{asks_says, ends_says, asks_some, source_is}

module _ (s : TapSides) (apart : AreApart s) where
  main_route : (earlier : TapDivision) (d : TapDatagram) (x : Pass) → CarriesPass s says_some earlier d x → lossy_route s d ≡ pass_route x.from x.packet
  main_route earlier d x c = by x.from x.packet c.source c.goes (asks_some d.payload x.packet c.spells) where
    from_client : d.source ≡ s.client → asks_in d.payload ≡ false → d.destination ≡ s.server → lossy_route s d ≡ TapRoute.FromClient
    from_client source plain to = rw (same_is d.source s.client source, plain, same_is d.destination s.server to) refl

    by : (e : End) (p : MachinePacket) → d.source ≡ side_of s e → GoesThere s earlier d e p → asks_in d.payload ≡ is_request p → lossy_route s d ≡ pass_route e p
    by Client Req source goes asks = rw (same_is d.source s.client source, asks, same_is d.destination s.asked goes) refl
    by Server p source goes asks = rw (source_is s apart d Server Client source, source_is s apart d Server Server source, same_is d.destination s.client goes) refl
    by Client _ source goes asks = from_client source asks goes.0

  stray_route : (d : TapDatagram) → PassesAstray s d → lossy_route s d ≡ TapRoute.Stray
  stray_route d p = by p.here.0 p.here.1 where
    by : (e : End) → d.destination ≡ side_of s e → lossy_route s d ≡ TapRoute.Stray
    by Client to = rw (other_peer d.source s.client (p.elsewhere Client), other_peer d.source s.server (p.elsewhere Server), same_is d.destination s.client to) refl
    by Server to = rw (
      other_peer d.source s.client (p.elsewhere Client),
      other_peer d.source s.server (p.elsewhere Server),
      other_peer d.destination s.client (λ is. apart.server (sym is ∙ to)),
      same_is d.destination s.server to,
      no_request_in s apart d p to,
    ) refl

  answer_route : (earlier : TapDivision) → HaveTapLabels s says_some earlier → (d : TapDatagram) → AnswersTapStray s earlier d → lossy_route s d ≡ TapRoute.StrayAnswer
  answer_route earlier labels d p = by p.own.0 p.own.1 where
    not_to : (e : End) → same_peer d.destination (side_of s e) ≡ false
    not_to e = other_peer d.destination (side_of s e) (λ at. no_stray_side s apart earlier labels e d.source d.destination at p.there)

    asks : asks_in d.payload ≡ false
    asks = asks_says d.payload (Message.Error 5 p.spells.0) p.spells.1

    ends : ends_in d.payload ≡ true
    ends = ends_says d.payload (Message.Error 5 p.spells.0) p.spells.1

    by : (e : End) → d.source ≡ side_of s e → lossy_route s d ≡ TapRoute.StrayAnswer
    by Client source = rw (same_is d.source s.client source, asks, not_to Server, not_to Client, ends) refl
    by Server source = rw (source_is s apart d Server Client source, source_is s apart d Server Server source, not_to Client, not_to Server, ends) refl

  pub lossy_label : (earlier : TapDivision) → HaveTapLabels s says_some earlier → (d : TapDatagram) (label : TapLabel) → HasTapLabel s says_some earlier d label → lossy_route s d ≡ label_route label
  lossy_label earlier labels d (Main x) p = main_route earlier d x p
  lossy_label earlier labels d Stray p = stray_route d p
  lossy_label earlier labels d StrayAnswer p = answer_route earlier labels d p
