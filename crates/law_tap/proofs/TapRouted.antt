-- The route of a datagram that passed between the ends is that of its label.
use Rattle.std.proofs.Common.{◌≡◌, true, false, List, [], ◌∷◌, Any, inl, inr, refl, sym, subst, ap, ◌∙◌, ◌&&◌, ◌==◌, map}
use Rattle.std.proofs.lemmas.Bool.{eqb-true, cases_Bool, and_parts}
use Rattle.tftp_packet.specs.{Message, End, Client, Server}
use Rattle.tftp_packet.specs.Hosts.{same_peer}
use Rattle.law_model.specs.Model.{MachinePacket, Req, Oack, Data, Ack, Error}
use Rattle.law_end.specs.{says_some}
use Rattle.law_end.proofs.Division.RouteTests.{same_is, other_peer}
use Rattle.law_end.proofs.Division.ServerRoutes.{byte_begins}
use Rattle.law_end.proofs.Division.Divided.{any_none, any_cases}
use Rattle.law_tap.specs.{Pass, is_request, PeerId, TapDatagram, TapSides, side_of, AreApart, TapLabel, Main, TapLabelled, TapDivision, tapped_of, IsMainFrom, GoesThere, CarriesPass, PassesAstray, AnswersTapStray, HasTapLabel, HaveTapLabels, asks_in, has_gone, tap_route, is_passing, transfer_between, TapRoute}
use Rattle.law_tap.specs.TapDress.{Stray, StrayAnswer}
use Rattle.law_tap.proofs.OneTapDivision.{no_stray_side}
use Rattle.law_tap.proofs.KeptOf.{any_more}
use Rattle.law_tap.proofs.TapTests.{asks_says, ends_says, asks_some, source_is}

-- the main datagrams, each with its packet
pub record Carried : Type 0 where
  pub datagram : TapDatagram
  pub pass : Pass

abbrev pub add_main : TapDatagram → TapLabel → List Carried → List Carried
add_main d (Main x) rest = record { datagram = d; pass = x } ∷ rest
add_main d Stray rest = rest
add_main d StrayAnswer rest = rest

abbrev pub mains : TapDivision → List Carried
mains [] = []
mains (p ∷ earlier) = add_main p.datagram p.label (mains earlier)

abbrev pub pass_route : End → MachinePacket → TapRoute
pass_route Client Req = TapRoute.Request
pass_route Client Oack = TapRoute.FromClient
pass_route Client (Data k) = TapRoute.FromClient
pass_route Client (Ack j) = TapRoute.FromClient
pass_route Client (Error code text) = TapRoute.FromClient
pass_route Server p = TapRoute.FromServer

abbrev pub label_route : TapLabel → TapRoute
label_route (Main x) = pass_route x.from x.packet
label_route Stray = TapRoute.Stray
label_route StrayAnswer = TapRoute.StrayAnswer

abbrev GoneSo : PeerId → PeerId → TapLabelled → Type 0
GoneSo from to p = (p.label ≡ Stray) × (p.datagram.source ≡ from) × (p.datagram.destination ≡ to)

pub passing_is : (e : End) (p : MachinePacket) → is_passing (pass_route e p) ≡ true
passing_is Client Req = refl
passing_is _ _ = refl

module _ (s : TapSides) (apart : AreApart s) where
  gone_here : (from to : PeerId) (d : TapDatagram) (ds : List TapDatagram) → d.source ≡ from → d.destination ≡ to → has_gone from to (d ∷ ds) ≡ true
  gone_here from to d ds one other = rw (same_is d.source from one, same_is d.destination to other) refl

  answered_gone : (division : TapDivision) → HaveTapLabels s says_some division → Any (λ p. IsMainFrom Server p.label) division → has_gone s.server s.client (tapped_of division) ≡ true
  answered_gone [] labels any = absurd (any_none (λ (p : TapLabelled). IsMainFrom Server p.label) any)
  answered_gone (p ∷ earlier) labels any = elim (any_cases (λ (q : TapLabelled). IsMainFrom Server q.label) p earlier any) [
    | inl (packet, now) ↦ let c = subst (HasTapLabel s says_some earlier p.datagram) now labels.0 in gone_here s.server s.client p.datagram (tapped_of earlier) c.source c.goes
    | inr before ↦ any_more (λ d. same_peer d.source s.server && same_peer d.destination s.client) p.datagram (tapped_of earlier) (answered_gone earlier labels.1 before)
  ]

  stray_gone : (from to : PeerId) (division : TapDivision) → Any (GoneSo from to) division → has_gone from to (tapped_of division) ≡ true
  stray_gone from to [] any = absurd (any_none (GoneSo from to) any)
  stray_gone from to (p ∷ earlier) any = elim (any_cases (GoneSo from to) p earlier any) [
    | inl now ↦ gone_here from to p.datagram (tapped_of earlier) now.1 now.2
    | inr before ↦ any_more (λ d. same_peer d.source from && same_peer d.destination to) p.datagram (tapped_of earlier) (stray_gone from to earlier before)
  ]

  -- ---- from the label to the route

  from_client : (earlier : TapDivision) → HaveTapLabels s says_some earlier → (d : TapDatagram) → d.source ≡ s.client → asks_in d.payload ≡ false → d.destination ≡ s.server → Any (λ p. IsMainFrom Server p.label) earlier
      → tap_route s (tapped_of earlier) d ≡ TapRoute.FromClient
  from_client earlier labels d source plain to any = rw (same_is d.source s.client source, plain, same_is d.destination s.server to, answered_gone earlier labels any) refl

  main_route : (earlier : TapDivision) → HaveTapLabels s says_some earlier → (d : TapDatagram) (x : Pass) → CarriesPass s says_some earlier d x → tap_route s (tapped_of earlier) d ≡ pass_route x.from x.packet
  main_route earlier labels d x c = by x.from x.packet c.source c.goes (asks_some d.payload x.packet c.spells) where
    by : (e : End) (p : MachinePacket) → d.source ≡ side_of s e → GoesThere s earlier d e p → asks_in d.payload ≡ is_request p → tap_route s (tapped_of earlier) d ≡ pass_route e p
    by Client Req source goes asks = rw (same_is d.source s.client source, asks, same_is d.destination s.asked goes) refl
    by Server p source goes asks = rw (source_is s apart d Server Client source, source_is s apart d Server Server source, same_is d.destination s.client goes) refl
    by Client _ source goes asks = from_client earlier labels d source asks goes.0 goes.1

  pub no_request_in : (d : TapDatagram) → PassesAstray s d → d.destination ≡ s.server → ((s.server.port == s.asked.port) && asks_in d.payload) ≡ false
  no_request_in d p to = elim (cases_Bool ((s.server.port == s.asked.port) && asks_in d.payload)) [
    | inr other ↦ other
    | inl is ↦ let both = and_parts (s.server.port == s.asked.port) (asks_in d.payload) is in absurd (p.no_request to (eqb-true s.server.port s.asked.port both.0) (byte_begins d.payload both.1))
  ]

  stray_route : (earlier : TapDivision) (d : TapDatagram) → PassesAstray s d → tap_route s (tapped_of earlier) d ≡ TapRoute.Stray
  stray_route earlier d p = by p.here.0 p.here.1 where
    by : (e : End) → d.destination ≡ side_of s e → tap_route s (tapped_of earlier) d ≡ TapRoute.Stray
    by Client to = rw (other_peer d.source s.client (p.elsewhere Client), other_peer d.source s.server (p.elsewhere Server), same_is d.destination s.client to) refl
    by Server to = rw (
      other_peer d.source s.client (p.elsewhere Client),
      other_peer d.source s.server (p.elsewhere Server),
      other_peer d.destination s.client (λ is. apart.server (sym is ∙ to)),
      same_is d.destination s.server to,
      no_request_in d p to,
    ) refl

  answer_route : (earlier : TapDivision) → HaveTapLabels s says_some earlier → (d : TapDatagram) → AnswersTapStray s earlier d → tap_route s (tapped_of earlier) d ≡ TapRoute.StrayAnswer
  answer_route earlier labels d p = by p.own.0 p.own.1 where
    gone : has_gone d.destination d.source (tapped_of earlier) ≡ true
    gone = stray_gone d.destination d.source earlier p.there

    not_to : (e : End) → same_peer d.destination (side_of s e) ≡ false
    not_to e = other_peer d.destination (side_of s e) (λ at. no_stray_side s apart earlier labels e d.source d.destination at p.there)

    by : (e : End) → d.source ≡ side_of s e → tap_route s (tapped_of earlier) d ≡ TapRoute.StrayAnswer
    by Client source = rw (same_is d.source s.client source, asks_says d.payload (Message.Error 5 p.spells.0) p.spells.1, not_to Server, gone, ends_says d.payload (Message.Error 5 p.spells.0) p.spells.1) refl
    by Server source = rw (source_is s apart d Server Client source, source_is s apart d Server Server source, not_to Client, gone, ends_says d.payload (Message.Error 5 p.spells.0) p.spells.1) refl

  pub route_is : (earlier : TapDivision) → HaveTapLabels s says_some earlier → (d : TapDatagram) (label : TapLabel) → HasTapLabel s says_some earlier d label → tap_route s (tapped_of earlier) d ≡ label_route label
  route_is earlier labels d (Main x) p = main_route earlier labels d x p
  route_is earlier labels d Stray p = stray_route earlier d p
  route_is earlier labels d StrayAnswer p = answer_route earlier labels d p

  -- the transfer is what the main datagrams are
  pub transfer_is : (division : TapDivision) → HaveTapLabels s says_some division → transfer_between s (tapped_of division) ≡ map (λ (c : Carried). c.datagram) (mains division)
  transfer_is [] labels = refl
  transfer_is (p ∷ earlier) labels = by p.label labels.0 (transfer_is earlier labels.1) where
    out : is_passing (tap_route s (tapped_of earlier) p.datagram) ≡ false → transfer_between s (tapped_of earlier) ≡ map (λ (c : Carried). c.datagram) (mains earlier)
        → transfer_between s (p.datagram ∷ tapped_of earlier) ≡ map (λ (c : Carried). c.datagram) (mains earlier)
    out is before = rw (is, before) refl

    by : (label : TapLabel) → HasTapLabel s says_some earlier p.datagram label → transfer_between s (tapped_of earlier) ≡ map (λ (c : Carried). c.datagram) (mains earlier)
        → transfer_between s (p.datagram ∷ tapped_of earlier) ≡ map (λ (c : Carried). c.datagram) (add_main p.datagram label (mains earlier))
    by (Main x) c before = into (ap is_passing (main_route earlier labels.1 p.datagram x c) ∙ passing_is x.from x.packet) before where
      into : is_passing (tap_route s (tapped_of earlier) p.datagram) ≡ true → transfer_between s (tapped_of earlier) ≡ map (λ (c : Carried). c.datagram) (mains earlier)
          → transfer_between s (p.datagram ∷ tapped_of earlier) ≡ p.datagram ∷ map (λ (c : Carried). c.datagram) (mains earlier)
      into is before = rw (is, before) refl
    by Stray c before = out (ap is_passing (stray_route earlier p.datagram c)) before
    by StrayAnswer c before = out (ap is_passing (answer_route earlier labels.1 p.datagram c)) before
